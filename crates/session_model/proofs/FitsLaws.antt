-- What a session says and keeps fits a width: where every mask of the book is below w, and so are wall counts and ones, each word of each answer
-- and each mask after the list is below w (`words_fit`, `masks_fit`).
--   Fitting R book w   what the rules and the book's masks give for that; `book_fitting`: they do, for 32 bits
--   MasksInside, Small      what each call keeps of the state, and what it gives for its answer
-- No contract cites this file. Assumes nothing.
use mathlib.Core.Path.{◌≡◌, refl, sym, ◌∙◌, subst⁻¹}
use mathlib.Core.Bool.{Bool}
use mathlib.Core.List.{List, [], ◌∷◌}
use mathlib.Core.Option.{Option, none, some, bind, Option-elim, none-ne-some}
use Prim.Native.Nat.{ℕ, zero, suc, ◌-◌, ◌^◌, ◌≤◌, ◌<◌, zero-le}
use native.Mathlib.Nat.{lt_of_le_of_lt}
use native.Mathlib.Omega.{arith}
use lib.Dec.{lit<}
use lib.ListN.{get_or, replicate, length-replicate}
use Rattle.domains.specs.Masks.{Subset}
use Rattle.domains.proofs.MaskLaws.{test_bit_empty, mask_subset_below}
use Rattle.domains.proofs.MasksLaws.{subset_trans, total_most, total_mono}
use Rattle.book.specs.Layout.{slots, values, masks}
use Rattle.book.proofs.LayoutLaws.{length_masks}
use Rattle.closing_model.specs.Table.{view}
use Rattle.settling_model.specs.Book.{closed_book, settled_book}
use Rattle.settling_model.specs.Settling.{settling}
use Rattle.book.specs.Lists.{All}
use Rattle.settling_model.specs.Stable.{table_bounds}
use Rattle.settling_model.proofs.SettlingLaws.{settling_largest}
use Rattle.session_model.specs.Decisions.{cut}
use Rattle.session_model.specs.Calls.{Call, decide, mark, back, show, walls, unknown}
use Rattle.session_model.specs.State.{Rules, State, Reply, live, value, done, refused, words, words_of}
use Rattle.session_model.specs.Refusal.{Refusal, unknown_kind, slot_out, value_out, no_mark, while_dead, marks_full, number, refusal}
use Rattle.session_model.specs.Machine.{decided, restored, act, step_by, step, runs, wallless, shut, fresh}
use Rattle.session_model.specs.BookRun.{rules_of, state_after, replies_of}
use Rattle.session_model.specs.Walls.{wall_count}
use Rattle.session_model.proofs.BookRunLaws.{rules_of_settle, live_run, shut_run}
use Rattle.session_model.proofs.CutLaws.{cut_subset}
use Rattle.session_model.proofs.NewsLaws.{news_total_le}
use Rattle.session_model.proofs.WallsLaws.{wall_count_most}

pub record Fitting (R : Rules) (book : List ℕ) (w : ℕ) : Type 0 where
  -- every first word is below
  pub numbers : 272 < w
  pub settles : (M N : List ℕ) → R.settle M ≡ some N → Subset N M
  pub standing : (kind : Bool) (M : List ℕ) (v : ℕ) → R.standing kind M v < w
  pub ones : (M : List ℕ) → Subset M book → R.ones M < w
  pub masks : (M : List ℕ) → Subset M book → (s : ℕ) → get_or M s 0 < w

-- the masks of a state, and those that it saved, lie within the book's
pub record MasksInside (book : List ℕ) (S : State) : Type 0 where
  pub masks : Subset S.masks book
  pub saved : All (λ M. Subset M book) S.saved

-- both words of an answer
pub record Small (w : ℕ) (r : Reply) : Type 0 where
  pub first : (words r).0 < w
  pub second : (words r).1 < w

module _ {R : Rules} {book : List ℕ} {w : ℕ} (fitting : Fitting R book w) where
  -- ---- the answers
  small_done : Small w done
  small_done = record { first = omega (arith, fitting.numbers); second = omega (arith, fitting.numbers) }

  small_live : (x : ℕ) → x < w → Small w (live x)
  small_live x below = record { first = omega (arith, fitting.numbers); second = below }

  small_value : (x : ℕ) → x < w → Small w (value x)
  small_value x below = record { first = omega (arith, fitting.numbers); second = below }

  number_most : (r : Refusal) → number r ≤ 16
  number_most unknown_kind = omega arith
  number_most slot_out = omega arith
  number_most value_out = omega arith
  number_most no_mark = omega arith
  number_most while_dead = omega arith
  number_most marks_full = omega arith

  small_refused : (r : Refusal) → Small w (refused (number r))
  small_refused r = record { first = omega (arith, fitting.numbers, number_most r); second = omega (arith, fitting.numbers) }

  -- ---- one call
  act_fits : (S : State) (c : Call) → MasksInside book S → MasksInside book (act R S c).0 × Small w (act R S c).1
  unfolding act decided restored
  act_fits S (decide d) inside = go (R.settle (cut d S.masks)) refl
    where
      go : (o : Option (List ℕ)) → R.settle (cut d S.masks) ≡ o → MasksInside book (decided R S o).0 × Small w (decided R S o).1
      go none is = (
        record { masks = inside.masks; saved = inside.saved },
        record { first = omega (arith, fitting.numbers); second = omega (arith, fitting.numbers) },
      )
      go (some N) is =
          let within = subset_trans (fitting.settles (cut d S.masks) N is) (subset_trans (cut_subset d S.masks) inside.masks) in (
            record { masks = within; saved = inside.saved },
            small_live (R.ones S.masks - R.ones N) (omega (arith, fitting.ones S.masks inside.masks)),
          )
  act_fits S mark inside = (record { masks = inside.masks; saved = (inside.masks, inside.saved) }, small_done)
  act_fits S back inside = go S.saved inside.saved
    where
      go : (Ms : List (List ℕ)) → All (λ M. Subset M book) Ms → MasksInside book (restored S Ms) × Small w done
      go [] saved = (inside, small_done)
      go (M ∷ Ms) saved = (record { masks = saved.0; saved = saved.1 }, small_done)
  act_fits S (show s) inside = (inside, small_value _ (fitting.masks S.masks inside.masks s))
  act_fits S (walls kind v) inside = (inside, small_value _ (fitting.standing kind S.masks v))
  act_fits S unknown inside = (inside, small_refused unknown_kind)

  step_fits : (S : State) (c : Call) → MasksInside book S → MasksInside book (step R S c).0 × Small w (step R S c).1
  unfolding step step_by
  step_fits S c inside = go (refusal R S c)
    where
      go : (o : Option Refusal) → MasksInside book (step_by R S c o).0 × Small w (step_by R S c o).1
      go none = act_fits S c inside
      go (some r) = (inside, small_refused r)

  -- ---- a list
  pub runs_fit : (S : State) (calls : List Call) → MasksInside book S
      → MasksInside book (runs R S calls).0 × All (λ x. x < w) (words_of (runs R S calls).1)
  unfolding runs words_of
  runs_fit S [] inside = (inside, tt)
  runs_fit S (c ∷ calls) inside =
      let first = step_fits S c inside in
      let rest = runs_fit (step R S c).0 calls first.0 in
      (rest.0, (first.1.first, (first.1.second, rest.1)))

-- ---- a book's run
module _ (b : List ℕ) (limit w : ℕ) (fitting : Fitting (rules_of b limit) (masks b) w) where
  wallless_fitting : Fitting (wallless (rules_of b limit)) (masks b) w
  wallless_fitting =
      record {
        numbers = fitting.numbers;
        settles = fitting.settles;
        standing = λ kind M v. omega (arith, fitting.numbers);
        ones = fitting.ones;
        masks = fitting.masks;
      }

  zeros_at : (n s : ℕ) → ◌≡◌ {A = ℕ} (get_or (replicate n 0) s 0) 0
  zeros_at zero s = refl
  zeros_at (suc n) zero = refl
  zeros_at (suc n) (suc s) = zeros_at n s

  shut_inside : MasksInside (masks b) (shut (rules_of b limit))
  shut_inside =
      record {
        masks =
            record {
              len = length-replicate (slots b) 0 ∙ sym (length_masks b);
              bits = λ s v. rw (zeros_at (slots b) s, test_bit_empty v) zero-le;
            };
        saved = tt;
      }

  abbrev Fits : State × List Reply → Type 0
  Fits t = MasksInside (masks b) t.0 × All (λ x. x < w) (words_of t.1)

  book_fits : (calls : List Call) → MasksInside (masks b) (state_after b limit calls) × All (λ x. x < w) (words_of (replies_of b limit calls))
  book_fits calls = go (settled_book b) refl
    where
      go : (o : Option (List ℕ)) → settled_book b ≡ o → MasksInside (masks b) (state_after b limit calls) × All (λ x. x < w) (words_of (replies_of b limit calls))
      go none dies = subst⁻¹ Fits (shut_run b limit dies calls) (runs_fit wallless_fitting (shut (rules_of b limit)) calls shut_inside)
      go (some M) settled =
          subst⁻¹ Fits (live_run b limit M settled calls)
          (runs_fit fitting (fresh M) calls (record { masks = fitting.settles (masks b) M (rules_of_settle b limit ∙ settled); saved = tt }))

  -- both words of each answer, and each mask after the list
  pub words_fit : (calls : List Call) → All (λ x. x < w) (words_of (replies_of b limit calls))
  words_fit calls = (book_fits calls).1

  pub masks_fit : (calls : List Call) (s : ℕ) → get_or (state_after b limit calls).masks s 0 < w
  masks_fit calls s = fitting.masks (state_after b limit calls).masks (book_fits calls).0.masks s

-- ---- 32 bits
-- the masks, the wall counts and the ones of a book of at most 256 slots, whose masks have 32 bits
pub book_fitting : (b : List ℕ) (limit : ℕ) → slots b ≤ 256 → ((s : ℕ) → get_or (masks b) s 0 < 2 ^ 32) → Fitting (rules_of b limit) (masks b) 4294967296
unfolding bind Option-elim
book_fitting b limit most below =
    record {
      numbers = lit< tt;
      settles = λ M N. settled (closed_book b) M N;
      standing = λ kind M v. walls_most (closed_book b) kind M v;
      ones = λ M within.
          lt_of_le_of_lt (news_total_le _ M)
          (omega (arith, total_mono M (masks b) within, total_most 32 (masks b) (λ s inside. below s), length_masks b));
      masks = λ M within s. mask_subset_below 32 (record { bits = within.bits s }) (below s);
    }
  where
    settled : (o : Option (List ℕ × List ℕ)) (M N : List ℕ)
        → bind o (λ T. settling (table_bounds (slots b) (values b) (view T.0 T.1)) M) ≡ some N → Subset N M
    settled none M N is = absurd (none-ne-some N is)
    settled (some T) M N is = (settling_largest _ M N is).within

    walls_most : (o : Option (List ℕ × List ℕ)) (kind : Bool) (M : List ℕ) (v : ℕ)
        → Option-elim o 0 (λ T. wall_count kind (slots b) (view T.0 T.1) M v) < 4294967296
    walls_most none kind M v = lit< tt
    walls_most (some T) kind M v =
        let walls : wall_count kind (slots b) (view T.0 T.1) M v ≤ slots b = wall_count_most kind (slots b) (view T.0 T.1) M v in
        omega (arith, walls, most)
