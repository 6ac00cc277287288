-- Calls and their format (document 01, 'Session'): 4 bytes a call, which are its kind, type and slot.
--   Call             a call with the fields that its kind uses, and no other
--   kind_of c         document 01's number of its kind, 0 for a kind that is not known
--   call_of kind v s  the call that a kind, a type and a slot make
--   call_at bytes i   call i of a list of bytes
--   calls_to bytes i  the calls before call i
--   calls_of bytes    all whole calls of the bytes; a rest of fewer than 4 is no call (the entry refuses such a list)
-- A wall count is of the lower bounds (true) or of the upper ones (false), as everywhere with segments.
-- Assumes nothing.
use Rattle.std.specs.Prelude.{Bool, true, false, List, ℕ, zero, suc, ◌+◌, ◌*◌, ◌/◌, length, get_or}
use Rattle.book.specs.Layout.{word16, list_of}
use Rattle.session_model.specs.Decisions.{Decision, assign, remove}

pub data Call : Type 0 where
  decide : Decision → Call
  mark back : Call
  show : (slot : ℕ) → Call
  walls : (lower : Bool) → (value : ℕ) → Call
  unknown : Call

abbrev pub kind_of : Call → ℕ
kind_of (decide (assign s v)) = 1
kind_of (decide (remove s v)) = 2
kind_of mark = 3
kind_of back = 4
kind_of (show s) = 5
kind_of (walls false v) = 6
kind_of (walls true v) = 7
kind_of unknown = 0

unfoldable pub call_of : ℕ → ℕ → ℕ → Call
call_of zero v s = unknown
call_of (suc zero) v s = decide (assign s v)
call_of (suc (suc zero)) v s = decide (remove s v)
call_of (suc (suc (suc zero))) v s = mark
call_of (suc (suc (suc (suc zero)))) v s = back
call_of (suc (suc (suc (suc (suc zero))))) v s = show s
call_of (suc (suc (suc (suc (suc (suc zero)))))) v s = walls false v
call_of (suc (suc (suc (suc (suc (suc (suc zero))))))) v s = walls true v
call_of (suc (suc (suc (suc (suc (suc (suc (suc kind)))))))) v s = unknown

abbrev pub call_at : List ℕ → ℕ → Call
call_at bytes i = call_of (get_or bytes (4 * i) 0) (get_or bytes (4 * i + 1) 0) (word16 bytes (4 * i + 2))

abbrev pub calls_to : List ℕ → ℕ → List Call
calls_to bytes i = list_of i (call_at bytes)

abbrev pub calls_of : List ℕ → List Call
calls_of bytes = calls_to bytes (length bytes / 4)
