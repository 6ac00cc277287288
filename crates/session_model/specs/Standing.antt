-- A session's standing, from the calls and their answers: opened dead, live, or dead with the number of the call, counted from 0.
--   Standing             the three cases; dead_of: the machine's flag in each
--   stand St i c r       the standing after call i, which is c, and its answer r
--   stand_from St i cs rs the standing after calls from call i on, and their answers
--   opening settled      the standing of a fresh session, from the settling of the book's masks
-- Assumes nothing.
use Rattle.std.specs.Prelude.{Bool, true, false, List, [], ◌∷◌, ℕ, suc}
use Rattle.std.proofs.Math.Option.{Option, none, some}
use Rattle.session_model.specs.Calls.{Call, decide, mark, back, show, walls, unknown}
use Rattle.session_model.specs.State.{Reply, live, dead, value, done, refused}

pub data Standing : Type 0 where
  OpenedDead Live : Standing
  Dead : (call : ℕ) → Standing

abbrev pub dead_of : Standing → Bool
dead_of OpenedDead = true
dead_of Live = false
dead_of (Dead call) = true

-- a back that is done makes it live
unfoldable pub stand : Standing → ℕ → Call → Reply → Standing
stand St i c (live struck) = St
stand St i c dead = Dead i
stand St i c (value x) = St
stand St i c done = elim c [ decide d ↦ St | mark ↦ St | back ↦ Live | show s ↦ St | walls kind v ↦ St | unknown ↦ St ]
stand St i c (refused x) = St

unfoldable pub stand_from : Standing → ℕ → List Call → List Reply → Standing
stand_from St i [] rs = St
stand_from St i (c ∷ cs) [] = St
stand_from St i (c ∷ cs) (r ∷ rs) = stand_from (stand St i c r) (suc i) cs rs

abbrev pub opening : Option (List ℕ) → Standing
opening none = OpenedDead
opening (some M) = Live
