-- The laws of `specs/InForce.antt`: an answer that refuses leaves the ledger (`follow_refused`), calls with their answers one after the other
-- (`follow_append`), and a back takes back every decision made since the mark that it restores, and nothing else (`back_takes_back`).
-- No contract cites this file. Assumes nothing.
use mathlib.Core.Path.{◌≡◌, refl, sym, ap, ap₂, ◌∙◌}
use mathlib.Core.List.{List, [], ◌∷◌, ◌++◌, append_assoc}
use Prim.Native.Nat.{ℕ}
use native.Mathlib.Nat.{suc_inj}
use native.Mathlib.Omega.{arith}
use lib.ListN.{length}
use Rattle.session_model.specs.Decisions.{Decision}
use Rattle.session_model.specs.Calls.{Call, decide, mark, back, show, walls, unknown}
use Rattle.session_model.specs.State.{Reply, live, dead, value, done, refused}
use Rattle.session_model.specs.InForce.{Ledger, when_live, when_done, taken_back, follow, follow_all}

-- ---- follow
pub follow_refused : (L : Ledger) (c : Call) (x : ℕ) → follow L c (refused x) ≡ L
unfolding follow when_live when_done
follow_refused L (decide d) x = refl
follow_refused L mark x = refl
follow_refused L back x = refl
follow_refused L (show s) x = refl
follow_refused L (walls kind v) x = refl
follow_refused L unknown x = refl

follow_mark : (L : Ledger) → (follow L mark done).marks ≡ L.force ∷ L.marks
unfolding follow when_done
follow_mark L = refl

-- an answer other than done leaves the marks
follow_other : (L : Ledger) (c : Call) (r : Reply) → (r ≡ done → ⊥) → (follow L c r).marks ≡ L.marks
unfolding follow when_live when_done
follow_other L (decide d) (live x) other = refl
follow_other L (decide d) dead other = refl
follow_other L (decide d) (value x) other = refl
follow_other L (decide d) done other = refl
follow_other L (decide d) (refused x) other = refl
follow_other L mark (live x) other = refl
follow_other L mark dead other = refl
follow_other L mark (value x) other = refl
follow_other L mark done other = absurd (other refl)
follow_other L mark (refused x) other = refl
follow_other L back (live x) other = refl
follow_other L back dead other = refl
follow_other L back (value x) other = refl
follow_other L back done other = absurd (other refl)
follow_other L back (refused x) other = refl
follow_other L (show s) r other = refl
follow_other L (walls kind v) r other = refl
follow_other L unknown r other = refl

-- a back that restores the mark at which the ledger was L
back_restores_mark : (L L' : Ledger) → L'.marks ≡ L.force ∷ L.marks → follow L' back done ≡ L
unfolding follow when_done taken_back
back_restores_mark L L' marked = ap (λ (dss : List (List Decision)). taken_back L' dss) marked

-- ---- follow_all
pub follow_append : (calls more : List Call) (rs ss : List Reply) (L : Ledger) → length calls ≡ length rs
    → follow_all L (calls ++ more) (rs ++ ss) ≡ follow_all (follow_all L calls rs) more ss
unfolding follow_all
follow_append [] more [] ss L same = refl
follow_append [] more (r ∷ rs) ss L same = absurd (omega arith)
follow_append (c ∷ calls) more [] ss L same = absurd (omega arith)
follow_append (c ∷ calls) more (r ∷ rs) ss L same = follow_append calls more rs ss (follow L c r) (suc_inj same)

-- calls and answers in which each mark that was made is restored, and each back restores one of them
pub data Matched : List Call → List Reply → Type 0 where
  end : Matched [] []
  other : {c : Call} {r : Reply} {cs : List Call} {rs : List Reply} → (r ≡ done → ⊥) → Matched cs rs → Matched (c ∷ cs) (r ∷ rs)
  pair : {cs ds : List Call} {rs ss : List Reply} → Matched cs rs → Matched ds ss → Matched (mark ∷ (cs ++ (back ∷ ds))) (done ∷ (rs ++ (done ∷ ss)))

-- what comes after matched calls starts from their ledger, whose marks are those before
matched_append : {cs : List Call} {rs : List Reply} → Matched cs rs → (L : Ledger) (ds : List Call) (ss : List Reply)
    → (follow_all L (cs ++ ds) (rs ++ ss) ≡ follow_all (follow_all L cs rs) ds ss) × ((follow_all L cs rs).marks ≡ L.marks)
unfolding follow_all
matched_append end L ds ss = (refl, refl)
matched_append (other {c = c} {r = r} not_done matched) L ds ss =
    let rest = matched_append matched (follow L c r) ds ss in
    (rest.0, rest.1 ∙ follow_other L c r not_done)
matched_append (pair {cs = cs} {ds = cs'} {rs = rs} {ss = rs'} inside behind) L ds ss =
    let L₁ = follow L mark done in
    let one = matched_append inside L₁ (back ∷ cs') (done ∷ rs') in
    let all = matched_append inside L₁ (back ∷ (cs' ++ ds)) (done ∷ (rs' ++ ss)) in
    let two = matched_append behind L ds ss in
    let as_before : follow (follow_all L₁ cs rs) back done ≡ L = back_restores_mark L (follow_all L₁ cs rs) (one.1 ∙ follow_mark L) in
    let inner : follow_all L₁ (cs ++ (back ∷ cs')) (rs ++ (done ∷ rs')) ≡ follow_all L cs' rs' =
    one.0 ∙ ap (λ (K : Ledger). follow_all K cs' rs') as_before in (
      ap₂ (λ (a : List Call) (b : List Reply). follow_all L₁ a b) (append_assoc cs (back ∷ cs') ds) (append_assoc rs (done ∷ rs') ss)
          ∙ all.0 ∙ ap (λ (K : Ledger). follow_all K (cs' ++ ds) (rs' ++ ss)) as_before ∙ two.0
          ∙ ap (λ (K : Ledger). follow_all K ds ss) (sym inner),
      ap (λ (K : Ledger). K.marks) inner ∙ two.1,
    )

-- the ledger is that before the mark
pub back_takes_back : {cs : List Call} {rs : List Reply} → Matched cs rs → (L : Ledger)
    → follow_all L (mark ∷ (cs ++ (back ∷ []))) (done ∷ (rs ++ (done ∷ []))) ≡ L
unfolding follow_all
back_takes_back {cs} {rs} matched L =
    let here = matched_append matched (follow L mark done) (back ∷ []) (done ∷ []) in
    here.0 ∙ back_restores_mark L (follow_all (follow L mark done) cs rs) (here.1 ∙ follow_mark L)
