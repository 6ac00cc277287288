-- What `segments::fall_in` answers, read as a reach and a clash: `Dropped` of filter_model's `specs/Strike.antt` and `Told`, one law for each
-- answer (`dropped_lowered`, `dropped_still`, `dropped_joined`, `dropped_clash`, `dropped_reached`). No contract cites this file. Assumes nothing.
use mathlib.Core.Path.{◌≡◌, ap, subst}
use mathlib.Core.Bool.{Bool, true, false, cond}
use mathlib.Core.Logic.{dite}
use mathlib.Core.List.{List}
use Prim.Native.Nat.{ℕ, ◌+◌, ◌-◌, ◌*◌, ◌≤◌, ◌<◌, zero-le}
use native.Mathlib.Nat.{le_refl}
use native.Mathlib.Decide.{dec_lt}
use native.Mathlib.Omega.{arith}
use lib.Dec.{ltb}
use lib.ListN.{get_or}
use borrow.Author.Tests.{lt-ltb, le-ltb}
use Rattle.segments_model.specs.Fall.{Quieted}
use Rattle.segments_model.specs.Links.{Held}
use Rattle.segments_model.specs.Part.{part, Lent}
use Rattle.segments_model.specs.Raise.{Reversal}
use Rattle.segments_model.proofs.PartLaws.{lent_map, lent_same}
use Rattle.segments.specs.Fell.{Inside, Answer, Reverses, Barred, Fell}
use Rattle.segments.specs.declared.Hit.{Hit}
use Rattle.segments.specs.declared.Hit.TheVariants.{Lowered, Still, Joined, Clash, Reached}
use Rattle.filter_model.specs.Strike.{Dropped}
use Rattle.filter_model.proofs.RowLaws.{row_first}
use Rattle.descents.specs.Told.{Told}

module _ (n slot : ℕ) (a b : List ℕ) {r : Hit} (fell : Fell (n + 1) slot a b r) where
  answer_at : (r' : Hit) → r ≡ r' → (C : ℕ → Bool) (f : ℕ → ℕ) → Held (n + 1) C f a → Answer (n + 1) C f slot a b r'
  answer_at r' is C f held = subst (λ (h : Hit). Answer (n + 1) C f slot a b h) is (fell.answer C f held)

  reverses_at : (r' : Hit) → r ≡ r' → Reverses (n + 1) slot a b r'
  reverses_at r' is = subst (λ (h : Hit). Reverses (n + 1) slot a b h) is fell.reverses

  inside_at : (r' : Hit) → r ≡ r' → Inside (n + 1) r'
  inside_at r' is = subst (λ (h : Hit). Inside (n + 1) h) is fell.inside

  quiet_drops : (g x : ℕ) → (slot < 256 → x < 256) → ((C : ℕ → Bool) (f : ℕ → ℕ) → Held (n + 1) C f a → Quieted (n + 1) C f slot b)
      → Reversal (n + 1) slot g x a b → Dropped n slot a b 0 g x
  quiet_drops g x byte quiet reversal =
      record {
        size = fell.size;
        inside = zero-le;
        byte = byte;
        reach = λ C f held lasts free.
            let quieted = quiet C f held in
            record {
              held = quieted.held;
              more = λ u slot<u u≤n corner. omega (arith, quieted.more u slot<u u≤n corner);
              past = λ u slot<u 0<u u≤n corner. quieted.more u slot<u u≤n corner;
              meets = λ 0<0. absurd (omega arith);
            };
        back = λ free. reversal;
        from = λ 0<0. absurd (omega arith);
      }

  -- the right end t is the note and 2, less the tag: 1 for the first, else 0
  lowered_drops : n ≤ 256 → (t : ℕ) → r ≡ Lowered t → Dropped n slot a b 0 (2 - t) (t + (2 - t) - 2)
  lowered_drops few t is =
      let inside = inside_at (Lowered t) is in
      quiet_drops (2 - t) (t + (2 - t) - 2) (λ _. omega (arith, few, inside)) (answer_at (Lowered t) is)
      (reverses_at (Lowered t) is (2 - t) (t + (2 - t) - 2) (omega (arith, inside)) (omega (arith, inside)))

  still_drops : r ≡ Still → Dropped n slot a b 0 2 0
  still_drops is = quiet_drops 2 0 (λ _. omega arith) (answer_at Still is) (reverses_at Still is)

  joined_drops : (p : ℕ) → r ≡ Joined p → Dropped n slot a b 0 2 p
  joined_drops p is =
      let reversal = reverses_at (Joined p) is in
      quiet_drops 2 p (λ s<256. omega (arith, reversal.raisable.low (le_refl 2))) (answer_at (Joined p) is) reversal

  clash_drops : r ≡ Clash → Dropped n slot a b 0 2 0
  clash_drops is =
      record {
        size = fell.size;
        inside = zero-le;
        byte = λ _. omega arith;
        reach = λ C f held lasts free. absurd (omega (arith, free, (answer_at Clash is C f held).meets.after));
        back = λ free. absurd (omega (arith, free, reverses_at Clash is));
        from = λ 0<0. absurd (omega arith);
      }

  module _ (t z : ℕ) (is : r ≡ Reached t z) where
    barred : (get_or a 0 0 ≤ slot) × (z ≡ get_or a 0 0)
    barred = subst (λ (h : Hit). Barred slot a b h) is fell.barred

    reached_inner : t ≤ n → Dropped n slot a b t 3 z
    reached_inner t≤n =
        record {
          size = fell.size;
          inside = t≤n;
          byte = λ s<256. omega (arith, barred);
          reach = λ C f held lasts free.
              let reached = answer_at (Reached t z) is C f held in
              record {
                held = reached.held;
                more = reached.more;
                past = λ u slot<u t<u u≤n corner. reached.past u t<u u≤n corner;
                meets = λ 0<t. reached.meets;
              };
          back = λ free. reverses_at (Reached t z) is;
          from = λ 0<t. barred.1;
        }

    -- the slack at n + 1 lasts
    reached_end : n < t → Dropped n slot a b 0 3 z
    reached_end n<t =
        let end : t ≡ n + 1 = omega (arith, inside_at (Reached t z) is) in
        record {
          size = fell.size;
          inside = zero-le;
          byte = λ s<256. omega (arith, barred);
          reach = λ C f held lasts free.
              let reached = answer_at (Reached t z) is C f held in
              absurd (omega (arith, lasts, reached.meets.slack, ap f end));
          back = λ free. reverses_at (Reached t z) is;
          from = λ 0<0. absurd (omega arith);
        }

    reached_drops : Dropped n slot a b (cond (ltb n t) 0 t) 3 z
    reached_drops =
        dite (dec_lt n t) (λ n<t. rw (lt-ltb n t n<t) (reached_end n<t)) (λ t≤n. rw (le-ltb n t (omega arith)) (reached_inner (omega arith)))

-- the row of cells that was lent
module _ (row n : ℕ) {slot : ℕ} {l l' : List ℕ} {r : Hit} (lent : Lent (row * (n + 2)) (n + 2) (λ a b. Fell (n + 1) slot a b r) l l') where
  barred_at : (r' : Hit) → r ≡ r' → Barred slot (part (row * (n + 2)) (n + 2) l) (part (row * (n + 2)) (n + 2) l') r'
  barred_at r' is =
      subst (λ (h : Hit). Barred slot (part (row * (n + 2)) (n + 2) l) (part (row * (n + 2)) (n + 2) l') h) is lent.does.barred

  pub lowered_after : {t : ℕ} → r ≡ Lowered t → 0 < t
  lowered_after {t} is = (subst (λ (h : Hit). Inside (n + 1) h) is lent.does.inside).0

  clash_told : r ≡ Clash → Told slot (get_or l (row * (n + 2)) 0) l l' true
  clash_told is = (
    rw (row_first n row l) at (reverses_at n slot (part (row * (n + 2)) (n + 2) l) (part (row * (n + 2)) (n + 2) l') lent.does Clash is),
    lent_same (record { does = barred_at Clash is; size = lent.size; before = lent.before; after = lent.after }),
  )

  -- the answer read as a clash, a reach, a tag and a note
  abbrev Read : Bool → ℕ → ℕ → ℕ → Type 0
  Read clash q g x = Lent (row * (n + 2)) (n + 2) (λ a b. Dropped n slot a b q g x) l l' × Told slot (get_or l (row * (n + 2)) 0) l l' clash

  module _ {clash : Bool} {q g x : ℕ} where
    pub dropped_lowered : {t first : ℕ} → n ≤ 256 → r ≡ Lowered t → first ≡ 2 - t → (clash ≡ false) × (q ≡ 0) × (g ≡ first) × (x ≡ t + first - 2)
        → Read clash q g x
    dropped_lowered {t} few is first_is are =
        rw (are.0, are.1, are.2, are.3, first_is)
        (lent_map (λ a b fell. lowered_drops n slot a b fell few t is) lent, rw (row_first n row l) at (barred_at (Lowered t) is))

    pub dropped_still : r ≡ Still → (clash ≡ false) × (q ≡ 0) × (g ≡ 2) × (x ≡ 0) → Read clash q g x
    dropped_still is are =
        rw (are.0, are.1, are.2, are.3)
        (lent_map (λ a b fell. still_drops n slot a b fell is) lent, rw (row_first n row l) at (barred_at Still is))

    pub dropped_joined : {p : ℕ} → r ≡ Joined p → (clash ≡ false) × (q ≡ 0) × (g ≡ 2) × (x ≡ p) → Read clash q g x
    dropped_joined {p} is are =
        rw (are.0, are.1, are.2, are.3)
        (lent_map (λ a b fell. joined_drops n slot a b fell p is) lent, rw (row_first n row l) at (barred_at (Joined p) is))

    pub dropped_clash : r ≡ Clash → (clash ≡ true) × (q ≡ 0) × (g ≡ 2) × (x ≡ 0) → Read clash q g x
    dropped_clash is are = rw (are.0, are.1, are.2, are.3) (lent_map (λ a b fell. clash_drops n slot a b fell is) lent, clash_told is)

    pub dropped_reached : {t z : ℕ} → r ≡ Reached t z → (clash ≡ false) × (q ≡ cond (ltb n t) 0 t) × (g ≡ 3) × (x ≡ z) → Read clash q g x
    dropped_reached {t} {z} is are =
        rw (are.0, are.1, are.2, are.3)
        (lent_map (λ a b fell. reached_drops n slot a b fell t z is) lent, rw (row_first n row l) at (barred_at (Reached t z) is).0)
