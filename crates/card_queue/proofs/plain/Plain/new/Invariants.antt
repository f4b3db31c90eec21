use Rattle.std.proofs.Common.{◌≡◌, take, vec_capacity}
use Rattle.card_queue.proofs.plain.Plain.new.Given as goal

-- the tokens before are in the queue, and its room is as it was taken
abbrev pub invariant-loop-token : goal.invariant-loop-token
invariant-loop-token l = record {
  added : l.tokens.items ≡ take l.token-index l.initial';
  room : vec_capacity l.tokens ≡ vec_capacity l.initial.tokens;
}
