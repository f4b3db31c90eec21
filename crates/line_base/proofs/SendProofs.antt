-- A transcript owns nothing, so it may go to any thread.
use denote.RattleType.{RattleType}
use denote.Param.Send.{IsSend}
use Rattle.line_base.specs.contracts.transcript.Transcript.{the_row}

pub transcript_send : (Y : RattleType) → IsSend (the_row Y)
transcript_send Y = record { owned = λ d vs. ((λ vss. (tt, ((λ uss. (tt, tt)), tt))), tt); leaving = λ k f vs. tt }
