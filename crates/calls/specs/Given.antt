-- The declared call in the words of session_model.
--   call_given c     the call that c stands for
-- Assumes nothing.
use Rattle.std.specs.Prelude.{true, false}
use Rattle.session_model.specs.Calls as Calls
use Rattle.session_model.specs.Decisions.{assign, remove}
use Rattle.calls.specs.declared.Call.{Call}
use Rattle.calls.specs.declared.Call.TheVariants.{Unknown, Assign, Remove, Mark, Back, Show, UpperWalls, LowerWalls}

abbrev pub call_given : Call → Calls.Call
call_given Unknown = Calls.unknown
call_given (Assign slot value) = Calls.decide (assign slot value)
call_given (Remove slot value) = Calls.decide (remove slot value)
call_given Mark = Calls.mark
call_given Back = Calls.back
call_given (Show slot) = Calls.show slot
call_given (UpperWalls value) = Calls.walls false value
call_given (LowerWalls value) = Calls.walls true value
