-- The laws of `specs/Calls.antt`: a kind from 8 up is unknown; the calls of a list of bytes one at a time, and of whole calls and more bytes
-- (`calls_of_append`), and of the bytes of one call (`calls_of_one`). No contract cites this file.
-- Assumes nothing.
use mathlib.Core.Path.{◌≡◌, refl, sym, ap, ◌∙◌}
use mathlib.Core.List.{List, [], ◌∷◌, ◌++◌, append_assoc, append-nil}
use Prim.Native.Nat.{ℕ, zero, suc, ◌+◌, ◌*◌, ◌/◌, ◌≤◌, ◌<◌}
use native.Mathlib.Nat.{add-zero, add-suc}
use native.Mathlib.Numerals.{add-one}
use native.Mathlib.Omega.{arith}
use lib.ListN.{length, get_or, take, drop, length-append, length-drop, get_or-append}
use lib.Seq.{get_or-append-add, get_or-take, get_or-drop, length-take-le}
use Rattle.book.specs.Layout.{list_of}
use Rattle.book.proofs.LayoutLaws.{list_of_suc, length_list_of}
use Rattle.session_model.specs.Calls.{Call, unknown, call_of, call_at, calls_to, calls_of}

-- ---- call_of
pub call_of_unknown : (kind v s : ℕ) → 8 ≤ kind → call_of kind v s ≡ unknown
unfolding call_of
call_of_unknown zero v s high = refl
call_of_unknown (suc zero) v s high = absurd (omega arith)
call_of_unknown (suc (suc zero)) v s high = absurd (omega arith)
call_of_unknown (suc (suc (suc zero))) v s high = absurd (omega arith)
call_of_unknown (suc (suc (suc (suc zero)))) v s high = absurd (omega arith)
call_of_unknown (suc (suc (suc (suc (suc zero))))) v s high = absurd (omega arith)
call_of_unknown (suc (suc (suc (suc (suc (suc zero)))))) v s high = absurd (omega arith)
call_of_unknown (suc (suc (suc (suc (suc (suc (suc zero))))))) v s high = absurd (omega arith)
call_of_unknown (suc (suc (suc (suc (suc (suc (suc (suc kind)))))))) v s high = refl

-- ---- calls_to, calls_of
module _ (bytes : List ℕ) where
  -- one call more, at the code's `i + 1`
  pub calls_to_next : (i : ℕ) → calls_to bytes (i + 1) ≡ calls_to bytes i ++ (call_at bytes i ∷ [])
  calls_to_next i = ap (λ (j : ℕ). calls_to bytes j) (add-one i) ∙ list_of_suc i (call_at bytes)

  pub length_calls_to : (i : ℕ) → length (calls_to bytes i) ≡ i
  length_calls_to i = length_list_of i (call_at bytes)

  pub length_calls_of : length (calls_of bytes) ≡ length bytes / 4
  length_calls_of = length_calls_to (length bytes / 4)

-- ---- list_of
list_of_same : (m : ℕ) (f g : ℕ → Call) → ((i : ℕ) → i < m → f i ≡ g i) → list_of m f ≡ list_of m g
unfolding list_of
list_of_same zero f g same = refl
list_of_same (suc m) f g same =
    ap (λ (cs : List Call). cs ++ (f m ∷ [])) (list_of_same m f g (λ i i<m. same i (omega arith))) ∙ ap (λ (c : Call). list_of m g ++ (c ∷ []))
    (same m (omega arith))

list_of_append : (m p : ℕ) (f : ℕ → Call) → list_of (m + p) f ≡ list_of m f ++ list_of p (λ i. f (m + i))
unfolding list_of
list_of_append m zero f = ap (λ (j : ℕ). list_of j f) (add-zero m) ∙ sym (append-nil (list_of m f))
list_of_append m (suc p) f =
    ap (λ (j : ℕ). list_of j f) (add-suc m p) ∙ ap (λ (cs : List Call). cs ++ (f (m + p) ∷ [])) (list_of_append m p f)
    ∙ append_assoc (list_of m f) (list_of p (λ i. f (m + i))) (f (m + p) ∷ [])

-- ---- calls_of over _++_
-- a call by its four bytes, wherever they stand
call_at_by : (bytes other : List ℕ) (i j : ℕ)
    → ((p q d : ℕ) → p ≡ 4 * i + d → q ≡ 4 * j + d → d < 4 → get_or bytes p 0 ≡ get_or other q 0) → call_at bytes i ≡ call_at other j
call_at_by bytes other i j same =
    rw (
      same (4 * i) (4 * j) 0 (omega arith) (omega arith) (omega arith),
      same (4 * i + 1) (4 * j + 1) 1 (omega arith) (omega arith) (omega arith),
      same (4 * i + 2) (4 * j + 2) 2 (omega arith) (omega arith) (omega arith),
      same (4 * i + 2 + 1) (4 * j + 2 + 1) 3 (omega arith) (omega arith) (omega arith),
    )
    refl

-- whole calls, and more bytes behind them
module _ (bytes more : List ℕ) (m : ℕ) (long : length bytes ≡ 4 * m) where
  call_at_front : (i : ℕ) → i < m → call_at (bytes ++ more) i ≡ call_at bytes i
  call_at_front i i<m =
      call_at_by (bytes ++ more) bytes i i
      (λ p q d p_is q_is d<4. get_or-append bytes more 0 p (omega (arith, long)) ∙ ap (λ (at : ℕ). get_or bytes at 0) (omega arith))

  call_at_back : (i : ℕ) → call_at (bytes ++ more) (m + i) ≡ call_at more i
  call_at_back i =
      call_at_by (bytes ++ more) more (m + i) i
      (λ p q d p_is q_is d<4. ap (λ (at : ℕ). get_or (bytes ++ more) at 0) (omega (arith, long)) ∙ get_or-append-add bytes more q 0)

  calls_to_front : (i : ℕ) → i ≤ m → calls_to (bytes ++ more) i ≡ calls_to bytes i
  calls_to_front i i≤m = list_of_same i (call_at (bytes ++ more)) (call_at bytes) (λ j j<i. call_at_front j (omega arith))

  pub calls_of_append : calls_of (bytes ++ more) ≡ calls_of bytes ++ calls_of more
  calls_of_append =
      ap (λ (j : ℕ). calls_to (bytes ++ more) j) (let count : length (bytes ++ more) / 4 ≡ m + length more / 4 = omega
      (arith, length-append bytes more, long) in count)
      ∙ list_of_append m (length more / 4) (call_at (bytes ++ more))
      ∙ ap (λ (cs : List Call). cs ++ list_of (length more / 4) (λ i. call_at (bytes ++ more) (m + i)))
      (calls_to_front m (omega arith) ∙ ap (λ (j : ℕ). calls_to bytes j) (let count : m ≡ length bytes / 4 = omega (arith, long) in count))
      ∙ ap (λ (cs : List Call). calls_of bytes ++ cs)
      (list_of_same (length more / 4) (λ i. call_at (bytes ++ more) (m + i)) (call_at more) (λ j j<m. call_at_back j))

-- the four bytes of call i, as a list of one call
pub calls_of_one : (bytes : List ℕ) (i : ℕ) → i < length bytes / 4 → calls_of (take 4 (drop (4 * i) bytes)) ≡ call_at bytes i ∷ []
unfolding list_of
calls_of_one bytes i i<m =
    let four : length (take 4 (drop (4 * i) bytes)) ≡ 4 = length-take-le 4 (drop (4 * i) bytes) (omega (arith, length-drop (4 * i) bytes)) in
    let count : length (take 4 (drop (4 * i) bytes)) / 4 ≡ 1 = omega (arith, four) in
    ap (λ (m : ℕ). calls_to (take 4 (drop (4 * i) bytes)) m) count
    ∙ ap (λ (c : Call). c ∷ [])
    (call_at_by (take 4 (drop (4 * i) bytes)) bytes 0 i
    (λ p q d p_is q_is d<4.
    get_or-take 4 (drop (4 * i) bytes) p 0 (omega (arith, p_is)) ∙ get_or-drop (4 * i) bytes p 0 ∙ ap (λ (at : ℕ). get_or bytes at 0) (omega (arith, p_is, q_is))))
