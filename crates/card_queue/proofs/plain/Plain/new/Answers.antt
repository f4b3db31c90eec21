use Rattle.std.proofs.Common.{◌≡◌, length, refl, ap, ◌∙◌, arith}
use Rattle.std.proofs.lemmas.List.{drop_all, length-take-le, take_all}
use Rattle.card_queue.proofs.plain.Plain.new.Goals as goal

pub loop-token-init : goal.loop-token-init
loop-token-init c = record { added = c.in_ok-tokens.ensures.items; room = refl }

pub push_reserved-requires : goal.push_reserved-requires
push_reserved-requires c =
    let before = c.loop-token.invariant in
    omega (
      arith,
      c.loop-token.tokens.ok.0,
      ap length before.added,
      length-take-le c.loop-token.token-index c.args.initial.now c.loop-token.auto.token-index-end,
      c.loop-token-test.true,
      before.room,
      c.in_ok-tokens.ensures.capacity,
    )

-- all initial tokens are there
all_are : (c : goal.After-loop-token) → c.loop-token.tokens.items ≡ c.args.initial.now
all_are c = c.loop-token.invariant.added ∙ take_all c.loop-token.token-index c.args.initial.now (omega (arith, c.loop-token-test.false))

pub returns-clause-initial : goal.returns-clause-initial
returns-clause-initial c =
    take_all (length c.args.initial.now) c.loop-token.tokens.items (omega (arith, ap length (all_are c))) ∙ all_are c

pub returns-clause-added : goal.returns-clause-added
returns-clause-added c =
    drop_all (length c.args.initial.now) c.loop-token.tokens.items (omega (arith, ap length (all_are c)))
