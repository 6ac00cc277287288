-- The plain machine of document 01 ('Session'), as a function on lists.
--   act R S c          what a call does that no number refuses; decided, restored: a decision and a back
--   step R S c         one call: refused, or done; step_by: by the refusal that applies
--   runs R S calls     a list of calls from a state, each on the state that the one before left: the last state, and the answers
--   opened R settled   the opening, from the settling of the book's masks: fresh with these, or shut and wallless
--   run R book calls   a list of calls from the fresh opening of a book's masks
--   after, replies     the state after a list, and its answers; reply_at .. i: the answer to call i, one of the list's
-- Assumes nothing.
use Rattle.std.specs.Prelude.{true, false, List, [], ◌∷◌, ℕ, ◌-◌, get_or, replicate}
use Rattle.std.proofs.Math.Option.{Option, none, some}
use Rattle.session_model.specs.Decisions.{cut}
use Rattle.session_model.specs.Calls.{Call, decide, mark, back, show, walls, unknown}
use Rattle.session_model.specs.State.{Rules, State, Reply, live, dead, value, done, refused}
use Rattle.session_model.specs.Refusal.{Refusal, unknown_kind, number, refusal}

-- ---- one call

-- a decision, from the settling of the cut masks: where a largest stable list lies within it becomes the masks, else the flag goes up
unfoldable pub decided : Rules → State → Option (List ℕ) → State × Reply
decided R S none = (record { masks = S.masks; dead = true; saved = S.saved }, dead)
decided R S (some N) = (record { masks = N; dead = false; saved = S.saved }, live (R.ones S.masks - R.ones N))

-- a back, from the saved masks: those of the latest mark still open, which is then gone; dead becomes live
unfoldable pub restored : State → List (List ℕ) → State
restored S [] = S
restored S (M ∷ rest) = record { masks = M; dead = false; saved = rest }

unfoldable pub act : Rules → State → Call → State × Reply
act R S (decide d) = decided R S (R.settle (cut d S.masks))
act R S mark = (record { masks = S.masks; dead = S.dead; saved = S.masks ∷ S.saved }, done)
act R S back = (restored S S.saved, done)
act R S (show s) = (S, value (get_or S.masks s 0))
act R S (walls kind v) = (S, value (R.standing kind S.masks v))
act R S unknown = (S, refused (number unknown_kind))

unfoldable pub step_by : Rules → State → Call → Option Refusal → State × Reply
step_by R S c none = act R S c
step_by R S c (some r) = (S, refused (number r))

unfoldable pub step : Rules → State → Call → State × Reply
step R S c = step_by R S c (refusal R S c)

-- ---- a list of calls

unfoldable pub runs : Rules → State → List Call → State × List Reply
runs R S [] = (S, [])
runs R S (c ∷ cs) =
    let now = step R S c in
    let rest = runs R now.0 cs in
    (rest.0, now.1 ∷ rest.1)

-- after a dead opening every wall count is 0
abbrev pub wallless : Rules → Rules
wallless R = record { slots = R.slots; values = R.values; limit = R.limit; settle = R.settle; standing = λ kind M v. 0; ones = R.ones }

abbrev pub shut : Rules → State
shut R = record { masks = replicate R.slots 0; dead = true; saved = [] }

abbrev pub fresh : List ℕ → State
fresh M = record { masks = M; dead = false; saved = [] }

unfoldable pub opened : Rules → Option (List ℕ) → Rules × State
opened R none = (wallless R, shut R)
opened R (some M) = (R, fresh M)

unfoldable pub run : Rules → List ℕ → List Call → State × List Reply
run R book calls =
    let opening = opened R (R.settle book) in
    runs opening.0 opening.1 calls

abbrev pub after : Rules → List ℕ → List Call → State
after R book calls = (run R book calls).0

abbrev pub replies : Rules → List ℕ → List Call → List Reply
replies R book calls = (run R book calls).1

abbrev pub reply_at : Rules → List ℕ → List Call → ℕ → Reply
reply_at R book calls i = get_or (replies R book calls) i done
