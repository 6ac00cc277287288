-- A back brings the masks of its mark (`back_restores`), in a book that opens live: the decisions in force are those of the mark again, and the
-- largest list is one only. No contract cites this file. Assumes nothing.
use mathlib.Core.Path.{◌≡◌, sym, ap, ◌∙◌, subst}
use mathlib.Core.List.{List, [], ◌∷◌, ◌++◌}
use mathlib.Core.Option.{some}
use Prim.Native.Nat.{ℕ}
use Rattle.book.specs.Layout.{masks}
use Rattle.closing_model.specs.Table.{view}
use Rattle.settling_model.specs.Book.{settled_book}
use Rattle.session_model.specs.Decisions.{LargestUnder}
use Rattle.session_model.specs.Calls.{Call, mark, back}
use Rattle.session_model.specs.State.{Reply, done}
use Rattle.session_model.specs.InForce.{Ledger, follow_all, unmarked}
use Rattle.session_model.specs.BookRun.{rules_of, state_after, replies_of}
use Rattle.session_model.specs.Demand.{bounds_of}
use Rattle.session_model.proofs.DecisionsLaws.{largest_under_unique}
use Rattle.session_model.proofs.InForceLaws.{Matched, follow_append, back_takes_back}
use Rattle.session_model.proofs.RunLaws.{length_run}
use Rattle.session_model.proofs.BookRunLaws.{settled_closed}
use Rattle.session_model.proofs.LiveLaws.{live_kept}

-- a mark, calls, and a back
abbrev marked : List Call → List Call
marked inside = mark ∷ (inside ++ (back ∷ []))

-- where the calls between are matched, so that the back restores this mark
pub back_restores : (b : List ℕ) (limit : ℕ) (M : List ℕ) → settled_book b ≡ some M → (before inside : List Call) (rs : List Reply) → Matched inside rs
    → replies_of b limit (before ++ marked inside) ≡ replies_of b limit before ++ (done ∷ (rs ++ (done ∷ [])))
    → (state_after b limit (before ++ marked inside)).masks ≡ (state_after b limit before).masks
back_restores b limit M settles before inside rs matched answers =
    let closes = settled_closed b M settles in
    let kept = live_kept b limit M settles closes.0 closes.1 closes.2 in
    let all = before ++ marked inside in
    let same : follow_all unmarked all (replies_of b limit all) ≡ follow_all unmarked before (replies_of b limit before) =
    ap (λ (l : List Reply). follow_all unmarked all l) answers
    ∙ follow_append before (marked inside) (replies_of b limit before) (done ∷ (rs ++ (done ∷ []))) unmarked
    (sym (length_run (rules_of b limit) (masks b) before))
    ∙ back_takes_back matched (follow_all unmarked before (replies_of b limit before)) in
    largest_under_unique
    (subst (λ (L : Ledger). LargestUnder (bounds_of b (view closes.0 closes.1)) (masks b) L.force (state_after b limit all).masks) same (kept all).force)
    (kept before).force
