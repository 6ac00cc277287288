-- The laws of `specs/BookRun.antt`: the rules of a book by its closed table (`rules_of_closed`, `rules_of_largest`, `rules_of_unstable`,
-- `rules_of_standing`), its opening by `settled_book` (`rules_of_settle`, `settled_closed`), and its run one call at a time, opened live or dead
-- (`live_run`, `live_snoc`, `shut_run`, `shut_snoc`). No contract cites this file. Assumes nothing.
use mathlib.Core.Path.{◌≡◌, refl, ap, ◌∙◌}
use mathlib.Core.Bool.{Bool}
use mathlib.Core.List.{List, [], ◌∷◌, ◌++◌}
use mathlib.Core.Option.{Option, none, some, bind, Option-elim, none-ne-some}
use Prim.Native.Nat.{ℕ}
use Rattle.book.specs.Layout.{slots, values, masks}
use Rattle.closing_model.specs.Table.{view}
use Rattle.settling_model.specs.Stable.{Largest, Unstable, table_bounds}
use Rattle.settling_model.specs.Settling.{settling}
use Rattle.settling_model.specs.Book.{closed_book, settled_book}
use Rattle.settling_model.proofs.SettlingLaws.{largest_settling, unstable_settling}
use Rattle.session_model.specs.Calls.{Call}
use Rattle.session_model.specs.Walls.{wall_count}
use Rattle.session_model.specs.State.{Rules, State}
use Rattle.session_model.specs.Machine.{runs, wallless, shut, fresh, run}
use Rattle.session_model.specs.BookRun.{rules_of, run_book}
use Rattle.session_model.proofs.RunLaws.{one_more, opened_live, opened_dead, run_snoc}

module _ (b : List ℕ) (limit : ℕ) where
  -- ---- rules_of
  pub rules_of_settle : (rules_of b limit).settle (masks b) ≡ settled_book b
  unfolding settled_book
  rules_of_settle = refl

  module _ (L U : List ℕ) (closes : closed_book b ≡ some (L, U)) where
    pub rules_of_closed : (M : List ℕ) → (rules_of b limit).settle M ≡ settling (table_bounds (slots b) (values b) (view L U)) M
    unfolding bind
    rules_of_closed M = ap (λ (o : Option (List ℕ × List ℕ)). bind o (λ T. settling (table_bounds (slots b) (values b) (view T.0 T.1)) M)) closes

    -- what a settling of masks by another way shows
    pub rules_of_largest : (M N : List ℕ) → Largest (table_bounds (slots b) (values b) (view L U)) M N → (rules_of b limit).settle M ≡ some N
    rules_of_largest M N largest = rules_of_closed M ∙ largest_settling _ M N largest

    pub rules_of_unstable : (M : List ℕ) → Unstable (table_bounds (slots b) (values b) (view L U)) M → (rules_of b limit).settle M ≡ none
    rules_of_unstable M unstable = rules_of_closed M ∙ unstable_settling _ M unstable

    pub rules_of_standing : (kind : Bool) (M : List ℕ) (v : ℕ) → (rules_of b limit).standing kind M v ≡ wall_count kind (slots b) (view L U) M v
    unfolding Option-elim
    rules_of_standing kind M v =
        ap (λ (o : Option (List ℕ × List ℕ)). Option-elim o 0 (λ T. wall_count kind (slots b) (view T.0 T.1) M v)) closes

  -- ---- run_book
  module _ (M : List ℕ) (settles : settled_book b ≡ some M) where
    pub live_run : (calls : List Call) → run_book b limit calls ≡ runs (rules_of b limit) (fresh M) calls
    unfolding run
    live_run calls = ap (λ (o : Rules × State). runs o.0 o.1 calls) (opened_live (rules_of b limit) (masks b) M (rules_of_settle ∙ settles))

    pub live_snoc : (calls : List Call) (c : Call) → run_book b limit (calls ++ (c ∷ [])) ≡ one_more (rules_of b limit) (run_book b limit calls) c
    live_snoc calls c =
        run_snoc (rules_of b limit) (masks b) calls c
        ∙ ap (λ (o : Rules × State). one_more o.0 (run_book b limit calls) c) (opened_live (rules_of b limit) (masks b) M (rules_of_settle ∙ settles))

  module _ (dies : settled_book b ≡ none) where
    pub shut_run : (calls : List Call) → run_book b limit calls ≡ runs (wallless (rules_of b limit)) (shut (rules_of b limit)) calls
    unfolding run
    shut_run calls = ap (λ (o : Rules × State). runs o.0 o.1 calls) (opened_dead (rules_of b limit) (masks b) (rules_of_settle ∙ dies))

    pub shut_snoc : (calls : List Call) (c : Call) → run_book b limit (calls ++ (c ∷ [])) ≡ one_more (wallless (rules_of b limit)) (run_book b limit calls) c
    shut_snoc calls c =
        run_snoc (rules_of b limit) (masks b) calls c
        ∙ ap (λ (o : Rules × State). one_more o.0 (run_book b limit calls) c) (opened_dead (rules_of b limit) (masks b) (rules_of_settle ∙ dies))

-- a book that settles closes
settled_closed_aux : (b M : List ℕ) (o : Option (List ℕ × List ℕ)) → closed_book b ≡ o
    → bind o (λ T. settling (table_bounds (slots b) (values b) (view T.0 T.1)) (masks b)) ≡ some M
    → (L : List ℕ) × (U : List ℕ) × (closed_book b ≡ some (L, U))
unfolding bind
settled_closed_aux b M none is settles = absurd (none-ne-some M settles)
settled_closed_aux b M (some T) is settles = (T.0, T.1, is)

pub settled_closed : (b M : List ℕ) → settled_book b ≡ some M → (L : List ℕ) × (U : List ℕ) × (closed_book b ≡ some (L, U))
unfolding settled_book
settled_closed b M settles = settled_closed_aux b M (closed_book b) refl settles
