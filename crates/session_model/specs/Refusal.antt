-- Which call is refused, by document 01's numbers 11 to 16 ('Entries and their numbers').
--   Refusal          the six; number: document 01's number of each
--   order            the order in which they are asked within a call (document 02, request five)
--   slot_fails, value_fails   the slot, or the value, that a call uses is out of range; of a call that uses none, never
--   applies R S c r  r applies to the call c on the state S; a field that a kind does not use never refuses it
--   refusal R S c    the first that applies, in that order; first: the first of a list that passes a test
-- Assumes nothing.
use Rattle.std.specs.Prelude.{Bool, false, cond, ◌&&◌, List, [], ◌∷◌, ℕ, eqb, leb, length}
use Rattle.std.proofs.Math.Option.{Option, none, some}
use Rattle.session_model.specs.Decisions.{slot_of, value_of}
use Rattle.session_model.specs.Calls.{Call, decide, mark, back, show, walls, unknown, kind_of}
use Rattle.session_model.specs.State.{Rules, State}

pub data Refusal : Type 0 where
  unknown_kind slot_out value_out no_mark while_dead marks_full : Refusal

abbrev pub number : Refusal → ℕ
number unknown_kind = 11
number slot_out = 12
number value_out = 13
number no_mark = 14
number while_dead = 15
number marks_full = 16

-- within a call: 11, 12, 13, 15, 14, 16
abbrev pub order : List Refusal
order = unknown_kind ∷ slot_out ∷ value_out ∷ while_dead ∷ no_mark ∷ marks_full ∷ []

-- the slot, or the value, that a call uses is n or more, or k or more
abbrev pub slot_fails : ℕ → Call → Bool
slot_fails n (decide d) = leb n (slot_of d)
slot_fails n mark = false
slot_fails n back = false
slot_fails n (show s) = leb n s
slot_fails n (walls kind v) = false
slot_fails n unknown = false

abbrev pub value_fails : ℕ → Call → Bool
value_fails k (decide d) = leb k (value_of d)
value_fails k mark = false
value_fails k back = false
value_fails k (show s) = false
value_fails k (walls kind v) = leb k v
value_fails k unknown = false

abbrev pub applies : Rules → State → Call → Refusal → Bool
-- kind 0 or from 8 up
applies R S c unknown_kind = eqb (kind_of c) 0
applies R S c slot_out = slot_fails R.slots c
applies R S c value_out = value_fails R.values c
-- back with no open mark
applies R S c no_mark = eqb (kind_of c) 4 && eqb (length S.saved) 0
-- kind 1, 2 or 3 while dead
applies R S c while_dead = S.dead && (leb 1 (kind_of c) && leb (kind_of c) 3)
-- mark with as many open as the limit
applies R S c marks_full = eqb (kind_of c) 3 && leb R.limit (length S.saved)

unfoldable pub first : (Refusal → Bool) → List Refusal → Option Refusal
first f [] = none
first f (r ∷ rs) = cond (f r) (some r) (first f rs)

unfoldable pub refusal : Rules → State → Call → Option Refusal
refusal R S c = first (applies R S c) order
