-- Which ring a queue runs over.
use Rattle.std.specs.Prelude.{ℕ}
use denote.RawPtr.{Ptr}
use Rattle.rtrb.specs.declared.producer.Producer.{Producer}
use Rattle.rtrb.specs.declared.consumer.Consumer.{Consumer}

-- what tells one ring from another: where its words and its slots lie, and the names of its two views
pub record Ring : Type 0 where
  pub words : Ptr
  pub slots : Ptr
  pub names : ℕ × (ℕ × ℕ)

module _ {T A P : Type 0} where
  -- the ring that a producer pushes into
  abbrev pub ring_of_producer : Producer T A P → Ring
  ring_of_producer p = record { words = p.end.words; slots = p.end.slots; names = p.end.names }

  -- the ring that a consumer pops from
  abbrev pub ring_of_consumer : Consumer T A P → Ring
  ring_of_consumer c = record { words = c.end.words; slots = c.end.slots; names = c.end.names }
