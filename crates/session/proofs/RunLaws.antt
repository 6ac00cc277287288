-- The laws of `Exactly` of session_fault's `specs/Entry.antt` that speak of a book's run: `exactly_live` and `exactly_dead` (the outcome of a good
-- book). No contract cites this file. Assumes nothing.
use mathlib.Core.Path.{◌≡◌, refl, sym, ◌∙◌}
use mathlib.Core.Bool.{true, false, true≢false}
use mathlib.Core.List.{List}
use mathlib.Core.Option.{Option, none, some}
use Prim.Native.Nat.{ℕ}
use Rattle.std.specs.Prelude.{Ok}
use Rattle.answer.specs.declared.Verdict.{Verdict}
use Rattle.answer.specs.declared.Verdict.TheVariants.{Live, Dead}
use Rattle.answer.specs.Answer.{word_of}
use Rattle.settling_model.specs.Book.{settled_book}
use Rattle.running_model.specs.BookRan.{opens_live, BookRan}
use Rattle.running_model.specs.declared.Ended.{Ended}
use Rattle.session_fault.specs.Entry.{most_marks, opened_word, Exactly}

-- ---- Exactly
module _ {b calls A A' M c t h : List ℕ} {r : Ended} (ran : BookRan b calls most_marks A A' M c t h r) where
  answered : (settled : Option (List ℕ)) (answer : Verdict) → (opens_live settled ≡ true → word_of (Ok answer) ≡ 0)
      → (opens_live settled ≡ false → word_of (Ok answer) ≡ 1)
      → word_of (Ok answer) ≡ opened_word settled
  answered none answer when_live_lem when_dead = when_dead refl
  answered (some N) answer when_live_lem when_dead = when_live_lem refl

  pub exactly_live : r.live ≡ true → Exactly b calls Live A A' M
  exactly_live live =
      record {
        answer = answered (settled_book b) Live (λ is. refl) (λ is. absurd (true≢false (sym live ∙ ran.live ∙ is)));
        words = ran.words;
        masks = ran.masks_are;
      }

  pub exactly_dead : r.live ≡ false → Exactly b calls Dead A A' M
  exactly_dead dead =
      record {
        answer = answered (settled_book b) Dead (λ is. absurd (true≢false (sym is ∙ sym ran.live ∙ dead))) (λ is. refl);
        words = ran.words;
        masks = ran.masks_are;
      }
