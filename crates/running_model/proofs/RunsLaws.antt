-- The laws of `Runs` of `specs/Runs.antt`: no call (`runs_start`), one call more (`runs_more`), what the next step needs (`runs_running`).
-- No contract cites this file. Assumes nothing.
use mathlib.Core.Path.{◌≡◌, refl, sym, ap, ◌∙◌}
use mathlib.Core.List.{List, [], ◌∷◌, ◌++◌, append_assoc}
use Prim.Native.Nat.{ℕ, suc, ◌+◌, ◌*◌, ◌<◌}
use native.Mathlib.Omega.{arith}
use lib.ListN.{length, get_or, set, drop, length-append}
use lib.Seq.{set_at, drop-cons}
use Rattle.book.specs.Layout.{list_of}
use Rattle.closing_model.specs.Table.{Table}
use Rattle.closing.specs.Close.{overlay}
use Rattle.session_model.specs.Calls.{Call, call_at, calls_to}
use Rattle.session_model.specs.Machine.{runs, step}
use Rattle.session_model.specs.Standing as Model
use Rattle.session_model.specs.Standing.{stand, stand_from}
use Rattle.session_model.specs.State.{Rules, State, Reply, words_of}
use Rattle.session_model.proofs.CallsLaws.{calls_to_next, length_calls_to}
use Rattle.session_model.proofs.StandingLaws.{stand_from_snoc}
use Rattle.session_model.proofs.RunLaws.{runs_snoc, length_replies, words_of_append, length_words_of}
use Rattle.acts.specs.Given.{standing_of}
use Rattle.acts.specs.Represents.{Running}
use Rattle.acts.specs.Answers.{Answered}
use Rattle.stepping.specs.Steps.{Steps}
use Rattle.running_model.specs.Runs.{RanTo, Runs}
use Rattle.acts.specs.declared.Session.{Session}
use Rattle.acts.specs.declared.Stepped.{Stepped}

-- ---- the words: two more, behind those that stand
overlay_more : (ws l : List ℕ) (i x y : ℕ) → length ws ≡ 2 * i → 2 * i + 1 < length l
    → set (set (overlay ws l) (2 * i) x) (2 * i + 1) y ≡ overlay (ws ++ (x ∷ y ∷ [])) l
overlay_more ws l i x y ws_length inside =
    let m = length ws in
    let a = get_or l m 0 in
    let b = get_or l (suc m) 0 in
    let rest = drop (suc (suc m)) l in
    let tail : drop m l ≡ a ∷ b ∷ rest = drop-cons l m 0 (omega (arith, ws_length, inside))
    ∙ ap (λ (t : List ℕ). a ∷ t) (drop-cons l (suc m) 0 (omega (arith, ws_length, inside))) in
    let one : set (ws ++ drop m l) (2 * i) x ≡ ws ++ (x ∷ b ∷ rest) = rw tail (set_at ws a (b ∷ rest) x (2 * i) ws_length) in
    let seam : ws ++ (x ∷ b ∷ rest) ≡ (ws ++ (x ∷ [])) ++ (b ∷ rest) = sym (append_assoc ws (x ∷ []) (b ∷ rest)) in
    let length_next : length (ws ++ (x ∷ [])) ≡ 2 * i + 1 = length-append ws (x ∷ []) ∙ omega (arith, ws_length) in
    let two : set ((ws ++ (x ∷ [])) ++ (b ∷ rest)) (2 * i + 1) y ≡ (ws ++ (x ∷ [])) ++ (y ∷ rest) =
    set_at (ws ++ (x ∷ [])) b rest y (2 * i + 1) length_next in
    let ends : (ws ++ (x ∷ [])) ++ (y ∷ rest) ≡ (ws ++ (x ∷ y ∷ [])) ++ rest = append_assoc ws (x ∷ []) (y ∷ rest)
    ∙ sym (append_assoc ws (x ∷ y ∷ []) rest) in
    let longer : length (ws ++ (x ∷ y ∷ [])) ≡ suc (suc m) = length-append ws (x ∷ y ∷ []) ∙ omega arith in
    ap (λ (t : List ℕ). set t (2 * i + 1) y) (one ∙ seam) ∙ two ∙ ends ∙ ap (λ (j : ℕ). (ws ++ (x ∷ y ∷ [])) ++ drop j l) (sym longer)

-- ---- one call more, from the machine's state out .0 and its replies out .1
ran_more : {T : Table} {R : Rules} {answers : List ℕ} {n k : ℕ} {session₁ : Session} {m₁ c₁ t₁ h₁ a₁ m₂ c₂ t₂ h₂ a₂ : List ℕ} {r : Stepped} (made i : ℕ)
    (c : Call) (out : State × List Reply) (calls : List Call) (St : Model.Standing) → length calls ≡ i → length out.1 ≡ length calls
    → 2 * i + 1 < length answers
    → RanTo T R out (stand_from St made calls out.1) m₁ c₁ t₁ h₁ n k session₁ answers a₁
    → Answered T R (step R out.0 c) (stand (standing_of session₁.standing) (made + i) c (step R out.0 c).1) m₂ c₂ t₂ h₂ n k r
    → a₂ ≡ set (set a₁ (2 * i) r.first) (2 * i + 1) r.second
    → RanTo T R ((step R out.0 c).0, out.1 ++ ((step R out.0 c).1 ∷ []))
    (stand_from St made (calls ++ (c ∷ [])) (out.1 ++ ((step R out.0 c).1 ∷ []))) m₂ c₂ t₂ h₂ n k r.session answers a₂
unfolding words_of
ran_more {T} {R} {answers = answers} {r = r} made i c out calls St calls_length same inside before answered written =
    let reply = (step R out.0 c).1 in
    let long : length (words_of out.1) ≡ 2 * i = length_words_of out.1 ∙ omega (arith, same, calls_length) in
    let said : words_of out.1 ++ (r.first ∷ r.second ∷ []) ≡ words_of (out.1 ++ (reply ∷ [])) = rw (answered.first, answered.second)
    (sym (words_of_append out.1 (reply ∷ []))) in
    let place : made + length calls ≡ made + i = omega (arith, calls_length) in
    record {
      represents = answered.represents;
      words =
          written ∙ ap (λ (l : List ℕ). set (set l (2 * i) r.first) (2 * i + 1) r.second) before.words
          ∙ overlay_more (words_of out.1) answers i r.first r.second long inside
          ∙ ap (λ (l : List ℕ). overlay l answers) said;
      standing =
          answered.standing ∙ ap (λ (s : Model.Standing). stand s (made + i) c reply) before.standing
          ∙ ap (λ (j : ℕ). stand (stand_from St made calls out.1) j c reply) (sym place)
          ∙ sym (stand_from_snoc St made calls out.1 c reply same);
    }

-- ---- the lengths, which no call changes
pub record Lengths (m₀ c₀ t₀ h₀ a₀ m c t h a : List ℕ) : Type 0 where
  pub masks : length m ≡ length m₀
  pub cells : length c ≡ length c₀
  pub trail : length t ≡ length t₀
  pub heights : length h ≡ length h₀
  pub answers : length a ≡ length a₀

-- ---- Runs
module _ {n k made : ℕ} {session : Session} {masks cells trail heights answers : List ℕ} where
  pub runs_start : (bytes : List ℕ) → Runs n k made (calls_to bytes 0) session masks cells trail heights answers session masks cells trail heights answers
  unfolding runs list_of stand_from words_of
  runs_start bytes = record { does = λ T R S represents. record { represents = represents; words = refl; standing = refl } }

  pub runs_running : {calls : List Call} {session' : Session} {masks' cells' trail' heights' answers' : List ℕ}
      → Runs n k made calls session masks cells trail heights answers session' masks' cells' trail' heights' answers'
      → Running masks cells trail heights n k session → Running masks' cells' trail' heights' n k session'
  runs_running {calls} so_far running =
      record {
        table = running.table;
        rules = running.rules;
        state = (runs running.rules running.state calls).0;
        represents = (so_far.does running.table running.rules running.state running.represents).represents;
      }

  module _ (bytes : List ℕ) (i : ℕ) {c : Call} {session₁ : Session} {m₁ c₁ t₁ h₁ a₁ m₂ c₂ t₂ h₂ a₂ : List ℕ} {r : Stepped} (c_is : c ≡ call_at bytes i) where
    pub runs_more : 2 * i + 1 < length answers
        → Runs n k made (calls_to bytes i) session masks cells trail heights answers session₁ m₁ c₁ t₁ h₁ a₁
        → Steps n k (made + i) c session₁ m₁ c₁ t₁ h₁ m₂ c₂ t₂ h₂ r → a₂ ≡ set (set a₁ (2 * i) r.first) (2 * i + 1) r.second
        → Runs n k made (calls_to bytes (i + 1)) session masks cells trail heights answers r.session m₂ c₂ t₂ h₂ a₂
    runs_more inside so_far stepped written =
        record {
          does = λ T R S represents.
              let before = so_far.does T R S represents in
              let calls = calls_to bytes i in
              rw (calls_to_next bytes i, ← c_is, runs_snoc R S calls c)
              (ran_more made i c (runs R S calls) calls (standing_of session.standing) (length_calls_to bytes i) (length_replies R S calls) inside before
              (stepped.does T R (runs R S calls).0 before.represents) written);
        }
