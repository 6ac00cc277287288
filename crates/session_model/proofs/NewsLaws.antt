-- The laws of `specs/News.antt`: one of a single value unless it is the idle one (`news_idle`, `news_other`), no more than the ones (`news_le`,
-- `news_total_le`), a value put in (`news_put`), what a store does (`news_total_store`), the measure (`news_total_mono`), and that the counts tell which value is
-- idle (`news_total_tells`). No contract cites this file. Assumes nothing.
use mathlib.Core.Path.{◌≡◌, refl, sym, ap}
use mathlib.Core.Logic.{dite}
use mathlib.Core.List.{List, [], ◌∷◌}
use Prim.Native.Nat.{ℕ, zero, suc, ◌+◌, ◌^◌, ◌≤◌, ◌<◌, zero-le}
use native.Mathlib.Nat.{le_refl, suc_inj}
use native.Mathlib.Decide.{ℕ_discrete}
use native.Mathlib.Omega.{arith}
use lib.Count.{ones}
use lib.ListN.{length, get_or, set}
use Rattle.domains.specs.Mask.{test_bit, clear_bit}
use Rattle.domains.specs.Masks.{Subset, total}
use Rattle.domains.proofs.MaskLaws.{test_bit_clear_bit_same, test_bit_clear_bit_other, test_bit_put_same, test_bit_put_other, clear_bit_put}
use Rattle.domains.proofs.MaskLaws.{ones_clear_bit, ones_subset, fixed_words, fixed_single}
use Rattle.domains.proofs.MasksLaws.{tail_subset}
use Rattle.session_model.specs.News.{news, news_total}

-- ---- news
pub news_idle : (v : ℕ) → news (suc v) (2 ^ v) ≡ 0
unfolding news
news_idle v = omega (arith, ones_clear_bit (2 ^ v) v, fixed_single (2 ^ v) v refl, (fixed_words (2 ^ v) v refl).0)

pub news_other : (idle v : ℕ) → (idle ≡ suc v → ⊥) → news idle (2 ^ v) ≡ 1
unfolding news
news_other zero v other = fixed_single (2 ^ v) v refl
news_other (suc w) v other =
    omega (arith, ones_clear_bit (2 ^ v) w, fixed_single (2 ^ v) v refl, (fixed_words (2 ^ v) v refl).1 w (λ e. other (ap suc e)))

pub news_le : (idle m : ℕ) → news idle m ≤ ones m
unfolding news
news_le zero m = le_refl _
news_le (suc v) m = omega (arith, ones_clear_bit m v)

pub news_single : (idle v : ℕ) → news idle (2 ^ v) ≤ 1
news_single idle v = omega (arith, news_le idle (2 ^ v), fixed_single (2 ^ v) v refl)

ones_put : (m v : ℕ) → test_bit m v ≡ 0 → ones (m + 2 ^ v) ≡ ones m + 1
ones_put m v lacks = omega (arith, ones_clear_bit (m + 2 ^ v) v, test_bit_put_same m v lacks, ap ones (clear_bit_put m v lacks))

-- a value put in where it was not: one more, unless it is the idle one
pub news_put : (idle m v : ℕ) → test_bit m v ≡ 0 → news idle (m + 2 ^ v) ≡ news idle m + news idle (2 ^ v)
unfolding news
news_put zero m v lacks = omega (arith, ones_put m v lacks, fixed_single (2 ^ v) v refl)
news_put (suc w) m v lacks =
    dite (ℕ_discrete v w)
    (λ same.
    rw same
    (let lacks' : test_bit m w ≡ 0 = rw same at lacks in
    omega (
      arith,
      ap ones (clear_bit_put m w lacks'),
      ones_clear_bit m w,
      news_idle w,
    )))
    (λ other.
    omega (
      arith,
      ones_clear_bit (m + 2 ^ v) w,
      ones_clear_bit m w,
      ones_put m v lacks,
      test_bit_put_other m v w lacks (λ e. other (sym e)),
      news_other (suc w) v (λ e. other (sym (suc_inj e))),
    ))

news_subset : (idle a b : ℕ) → ((v : ℕ) → test_bit a v ≤ test_bit b v) → news idle a ≤ news idle b
unfolding news
news_subset zero a b a⊆b = ones_subset a b a⊆b
news_subset (suc w) a b a⊆b =
    ones_subset (clear_bit a w) (clear_bit b w)
    (λ v.
    dite (ℕ_discrete v w) (λ same. rw same (omega (arith, test_bit_clear_bit_same a w)))
    (λ other. omega (arith, test_bit_clear_bit_other a w v other, test_bit_clear_bit_other b w v other, a⊆b v)))

-- ---- news_total
pub news_total_le : (idle : ℕ) (M : List ℕ) → news_total idle M ≤ total M
unfolding news_total total
news_total_le idle [] = le_refl _
news_total_le idle (m ∷ M) = omega (arith, news_le idle m, news_total_le idle M)

pub news_total_store : (idle : ℕ) (M : List ℕ) (s m : ℕ) → s < length M
    → news_total idle (set M s m) + news idle (get_or M s 0) ≡ news_total idle M + news idle m
unfolding news_total
news_total_store idle [] s m inside = absurd (omega arith)
news_total_store idle (x ∷ M) zero m inside = omega arith
news_total_store idle (x ∷ M) (suc s) m inside = omega (arith, news_total_store idle M s m (omega arith))

pub news_total_mono : (idle : ℕ) (N M : List ℕ) → Subset N M → news_total idle N ≤ news_total idle M
unfolding news_total
news_total_mono idle [] [] N⊆M = le_refl _
news_total_mono idle [] (m ∷ ms) N⊆M = zero-le
news_total_mono idle (x ∷ xs) [] N⊆M = absurd (omega (arith, N⊆M.len))
news_total_mono idle (x ∷ xs) (m ∷ ms) N⊆M =
    omega (arith, news_subset idle x m (λ v. N⊆M.bits 0 v), news_total_mono idle xs ms (tail_subset N⊆M))

-- the list of just the value v is counted 0 where v is idle, else 1
single_total : (idle v : ℕ) → news_total idle (2 ^ v ∷ []) ≡ news idle (2 ^ v)
unfolding news_total
single_total idle v = omega arith

pub news_total_tells : (x y : ℕ) → ((M : List ℕ) → news_total x M ≡ news_total y M) → x ≡ y
news_total_tells x zero same = tells_none x (λ M. same M)
  where
    tells_none : (x : ℕ) → ((M : List ℕ) → news_total x M ≡ news_total 0 M) → x ≡ 0
    tells_none zero same = refl
    tells_none (suc v) same =
        absurd (omega (
          arith,
          same (2 ^ v ∷ []),
          single_total (suc v) v,
          single_total 0 v,
          news_idle v,
          news_other 0 v (λ e. absurd (omega (arith, e))),
        ))
news_total_tells x (suc w) same =
    dite (ℕ_discrete x (suc w)) (λ is. is)
    (λ other. absurd (omega (arith, same (2 ^ w ∷ []), single_total x w, single_total (suc w) w, news_other x w other, news_idle w)))
