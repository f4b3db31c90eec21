use Rattle.std.proofs.Common.{◌≡◌, ℕ, ◌+◌, ◌<◌, ◌≤◌, List, [], ◌∷◌, ◌++◌, length, get_or, sym, ap, ◌∙◌, length-append, arith}
use Rattle.std.proofs.lemmas.List.{length-take-le, take_all, take_more}
use Rattle.std.proofs.lemmas.Result.{IfOk-from_err}
use Rattle.room_ring.specs.Ends.{IsRoomRing}
use Rattle.room_ring.specs.Put.{RoomPutEnd, room_space, room_tokens}
use Rattle.room_ring.specs.Take.{RoomTakeEnd, room_known}
use Rattle.room_ring.proofs.room_ring.Goals as goal
use Rattle.room_ring.proofs.room_ring.Goals.{After-tell_take}

pub returns-in_err-put-clause-ring : goal.returns-in_err-put-clause-ring
returns-in_err-put-clause-ring c = IfOk-from_err c.from_residual.result (λ ends. IsRoomRing ends.0 ends.1) c.from_residual.ensures.0

pub returns-in_err-put-clause-room : goal.returns-in_err-put-clause-room
returns-in_err-put-clause-room c = IfOk-from_err c.from_residual.result (λ ends. ends.0.ring.room ≡ c.args.room) c.from_residual.ensures.0

pub returns-in_err-put-clause-initial : goal.returns-in_err-put-clause-initial
returns-in_err-put-clause-initial c = IfOk-from_err c.from_residual.result (λ ends. ends.0.initial ≡ c.args.initial.now) c.from_residual.ensures.0

pub returns-in_err-put-clause-added : goal.returns-in_err-put-clause-added
returns-in_err-put-clause-added c = IfOk-from_err c.from_residual.result (λ ends. ends.0.added ≡ []) c.from_residual.ensures.0

pub returns-in_err-put-clause-space : goal.returns-in_err-put-clause-space
returns-in_err-put-clause-space c = IfOk-from_err c.from_residual.result (λ ends. room_space ends.0 + length c.args.initial.now ≡ c.args.room) c.from_residual.ensures.0

pub returns-in_err-put-clause-taken : goal.returns-in_err-put-clause-taken
returns-in_err-put-clause-taken c = IfOk-from_err c.from_residual.result (λ ends. ends.1.taken ≡ []) c.from_residual.ensures.0

pub returns-in_err-put-clause-known : goal.returns-in_err-put-clause-known
returns-in_err-put-clause-known c = IfOk-from_err c.from_residual.result (λ ends. length c.args.initial.now ≤ room_known ends.1) c.from_residual.ensures.0

pub loop-token-init : goal.loop-token-init
loop-token-init c =
    let e = c.in_ok-put.ensures in
    record { initial = e.initial; added = e.added; head = e.head; room = e.room; ring = e.ring; taken = e.taken }

pub loop-token-preserved : goal.loop-token-preserved
loop-token-preserved c =
    let before = c.loop-token.invariant in
    let e = c.put_within.ensures in
    record {
      initial = ap (λ (p : RoomPutEnd). p.initial) e ∙ before.initial;
      added =
          ap (λ (p : RoomPutEnd). p.added) e
          ∙ ap (λ (l : List ℕ). l ++ get_or c.args.initial.now c.loop-token.token-index 0 ∷ []) before.added
          ∙ sym (take_more c.args.initial.now c.loop-token.token-index 0 c.loop-token-test.true);
      head = ap (λ (p : RoomPutEnd). p.head) e ∙ before.head;
      room = ap (λ (p : RoomPutEnd). p.ring.room) e ∙ before.room;
      ring = before.ring ∙ sym (ap (λ (p : RoomPutEnd). p.ring) e);
      taken = before.taken;
    }

pub put_within-requires-clause-most : goal.put_within-requires-clause-most
put_within-requires-clause-most c =
    omega (
      arith,
      ap length c.loop-token.invariant.added,
      length-take-le c.loop-token.token-index c.args.initial.now c.loop-token.auto.token-index-end,
      c.loop-token.auto.token-index-end,
      c.requires.fits,
      c.requires.most_room,
    )

pub put_within-requires-clause-space : goal.put_within-requires-clause-space
put_within-requires-clause-space c =
    let put = c.loop-token.put in
    let before = c.loop-token.invariant in
    omega (
      arith,
      length-append put.initial put.added,
      ap length before.initial,
      ap length before.added,
      length-take-le c.loop-token.token-index c.args.initial.now c.loop-token.auto.token-index-end,
      c.loop-token-test.true,
      c.requires.fits,
      before.room,
      before.head,
    )

pub begin-requires : goal.begin-requires
begin-requires c =
    let put = c.loop-token.put in
    omega (
      arith,
      length-append put.initial put.added,
      ap length c.loop-token.invariant.initial,
      ap length c.loop-token.invariant.added,
      length-take-le c.loop-token.token-index c.args.initial.now c.loop-token.auto.token-index-end,
      c.loop-token.auto.token-index-end,
      c.requires.fits,
      c.requires.most_room,
    )

pub tell_take-requires : goal.tell_take-requires
tell_take-requires c = c.loop-token.invariant.ring ∙ sym (ap (λ (p : RoomPutEnd). p.ring) c.begin.ensures)

-- the end at which tokens are put, after all
put_is : (c : After-tell_take) → c.tell_take.new.put ≡ record c.loop-token.put { initial = room_tokens c.loop-token.put; added = [] }
put_is c = c.tell_take.ensures.put ∙ c.begin.ensures

pub returns-clause-ring : goal.returns-clause-ring
returns-clause-ring c =
    ap (λ (t : RoomTakeEnd). t.ring) c.tell_take.ensures.looks.same
    ∙ c.loop-token.invariant.ring
    ∙ sym (ap (λ (p : RoomPutEnd). p.ring) (put_is c))

pub returns-clause-room : goal.returns-clause-room
returns-clause-room c = ap (λ (p : RoomPutEnd). p.ring.room) (put_is c) ∙ c.loop-token.invariant.room

pub returns-clause-initial : goal.returns-clause-initial
returns-clause-initial c =
    ap (λ (p : RoomPutEnd). p.initial) (put_is c)
    ∙ ap (λ (l : List ℕ). l ++ c.loop-token.put.added) c.loop-token.invariant.initial
    ∙ c.loop-token.invariant.added
    ∙ take_all c.loop-token.token-index c.args.initial.now (omega (arith, c.loop-token-test.false))

pub returns-clause-added : goal.returns-clause-added
returns-clause-added c = ap (λ (p : RoomPutEnd). p.added) (put_is c)

pub returns-clause-space : goal.returns-clause-space
returns-clause-space c =
    let put = c.tell_take.new.put in
    omega (
      arith,
      length-append put.initial put.added,
      ap length (returns-clause-initial c),
      ap length (returns-clause-added c),
      returns-clause-room c,
      ap (λ (p : RoomPutEnd). p.head) (put_is c) ∙ c.loop-token.invariant.head,
      c.requires.fits,
    )

pub returns-clause-taken : goal.returns-clause-taken
returns-clause-taken c = ap (λ (t : RoomTakeEnd). t.taken) c.tell_take.ensures.looks.same ∙ c.loop-token.invariant.taken

pub returns-clause-known : goal.returns-clause-known
returns-clause-known c =
    let put = c.tell_take.new.put in
    omega (
      arith,
      c.tell_take.ensures.known,
      ap length (returns-clause-taken c),
      length-append put.initial put.added,
      ap length (returns-clause-initial c),
    )
