-- What the calls other than decisions are to the machine: `mark_acts`, `back_acts`, `show_acts`, `walls_shut` and `walls_stand`.
-- No contract cites this file. Assumes nothing.
use mathlib.Core.Path.{◌≡◌, refl, sym, ap, ◌∙◌, subst}
use mathlib.Core.Bool.{Bool, true, false, true≢false}
use mathlib.Core.List.{List, [], ◌∷◌}
use Prim.Native.Nat.{ℕ, suc, ◌+◌, ◌-◌, ◌*◌, ◌≤◌, ◌<◌}
use native.Mathlib.Omega.{arith}
use lib.Dec.{ltb}
use lib.ListN.{length, get_or, set, length-set}
use Rattle.domains.specs.Counts.{bit}
use Rattle.closing_model.specs.Table.{Table}
use Rattle.filter_model.specs.Mirror.{cells_of, row}
use Rattle.filter_model.proofs.RowLaws.{row_inside}
use Rattle.segments_model.specs.Cells.{standing_in}
use Rattle.segments_model.specs.Links.{gaps}
use Rattle.segments_model.specs.Part.{part}
use Rattle.segments_model.proofs.SlackLaws.{segments_standing}
use Rattle.segments_model.proofs.SumLaws.{count_bound}
use Rattle.undoing.specs.Undone.{Undoable, Undone}
use Rattle.session_model.specs.Calls as Calls
use Rattle.session_model.specs.Machine.{restored, act}
use Rattle.session_model.specs.Standing.{stand}
use Rattle.session_model.specs.State as Machine
use Rattle.session_model.specs.State.{Rules, State}
use Rattle.acts.specs.Given.{standing_of, is_shut}
use Rattle.acts.specs.Represents.{Entry, Pile, Working, StandsFor, Represents}
use Rattle.acts.specs.Answers.{Answered, Acts, Marking, Backing, Counting}
use Rattle.acts.specs.declared.Session.{Session}
use Rattle.acts.specs.declared.Standing.{Standing}
use Rattle.acts.specs.declared.Standing.TheVariants.{OpenedDead, Live, Dead}
use Rattle.acts.proofs.PileLaws.{pile_first, pile_mark}
use Rattle.acts.proofs.RepresentsLaws.{live_working}

-- ---- mark
act_mark : (R : Rules) (S : State)
    → act R S Calls.mark ≡ (record { masks = S.masks; dead = S.dead; saved = S.masks ∷ S.saved }, Machine.done)
unfolding act
act_mark R S = refl

working_mark : {T : Table} {R : Rules} {saved : List (List ℕ)} {masks cells trail heights : List ℕ} {n k top : ℕ} (M : List ℕ) (marks : ℕ)
    → M ≡ masks → length saved ≡ marks → marks < length heights → Working T R saved masks cells trail heights n k top
    → Working T R (M ∷ saved) masks cells trail (set heights marks top) n k top
working_mark {T} {R} {saved} {masks} {cells} {trail} {heights} {n} {k} {top} M marks M_is marks_are free working =
    rw (M_is, ← marks_are)
    (record {
      rules = working.rules;
      mirror = working.mirror;
      base = working.base;
      pile =
          pile_mark n k T trail heights masks cells top saved (omega (arith, marks_are, free)) working.mirror working.base
          working.pile;
    })

mark_answered : {T : Table} {R : Rules} {S : State} {masks cells trail heights : List ℕ} {n k : ℕ} {session : Session}
    → Represents T R S masks cells trail heights n k session → Marking heights session → (i : ℕ)
    → Answered T R (act R S Calls.mark) (stand (standing_of session.standing) i Calls.mark (act R S Calls.mark).1) masks cells trail
    (set heights session.marks session.top) n k
    (record { session = record { standing = Live; top = session.top; marks = session.marks + 1; idle = session.idle }; first = 3; second = 0 })
unfolding stand
mark_answered {T} {R} {S} {heights = heights} {n = n} {k = k} {session} represents marking i =
    let longer = length-set heights session.marks session.top in
    rw (act_mark R S, marking.live)
    (record {
      represents =
          record {
            room = represents.room;
            suits =
                record {
                  slots = represents.suits.slots;
                  values = represents.suits.values;
                  limit = represents.suits.limit ∙ sym longer;
                  ones = represents.suits.ones;
                  idle_known = represents.suits.idle_known;
                };
            masks_are = represents.masks_are;
            flag = rw marking.live at represents.flag;
            marks_are = omega (arith, represents.marks_are);
            marks_in = omega (arith, longer, marking.free);
            top_fits = represents.top_fits;
            stands =
                working_mark S.masks session.marks represents.masks_are represents.marks_are marking.free
                (live_working represents marking.live);
          };
      first = refl;
      second = refl;
      standing = refl;
    })

pub mark_acts : {heights : List ℕ} {session : Session} → Marking heights session → (masks cells trail : List ℕ) (n k i : ℕ)
    → Acts n k i Calls.mark session masks cells trail heights masks cells trail (set heights session.marks session.top)
    (record { session = record { standing = Live; top = session.top; marks = session.marks + 1; idle = session.idle }; first = 3; second = 0 })
mark_acts marking masks cells trail n k i = record { does = λ T R S represents. mark_answered represents marking i }

-- ---- back
pub record Latest (saved : List (List ℕ)) : Type 0 where
  pub first : List ℕ
  pub rest : List (List ℕ)
  pub are : saved ≡ first ∷ rest

latest : (saved : List (List ℕ)) → 0 < length saved → Latest saved
latest [] some = absurd (omega arith)
latest (M ∷ rest) some = record { first = M; rest = rest; are = refl }

act_back : (R : Rules) (S : State) (M : List ℕ) (rest : List (List ℕ)) → S.saved ≡ M ∷ rest
    → act R S Calls.back ≡ (record { masks = M; dead = false; saved = rest }, Machine.done)
unfolding act restored
act_back R S M rest are = rw are refl

module _ {T : Table} {R : Rules} {S : State} {masks cells trail heights : List ℕ} {n k : ℕ} {session : Session}
    (represents : Represents T R S masks cells trail heights n k session) (marked : 0 < session.marks) where
  -- a session with an open mark opened live
  marked_working : Working T R S.saved masks cells trail heights n k session.top
  marked_working = go session.standing represents.stands
    where
      go : (standing : Standing) → StandsFor standing T R S.saved masks cells trail heights n k session.top
          → Working T R S.saved masks cells trail heights n k session.top
      go OpenedDead shut =
          let none : length S.saved ≡ 0 = ap length shut.saved_none in
          absurd (omega (arith, none, represents.marks_are, marked))
      go Live working = working
      go (Dead call) working = working

  marked_latest : Latest S.saved
  marked_latest = latest S.saved (omega (arith, represents.marks_are, marked))

  module _ (from : ℕ) (from_is : from ≡ get_or heights (session.marks - 1) 0) where
    marked_entry : (c' : List ℕ) × Entry n k T trail masks cells session.top marked_latest.first c' from
        × Pile n k T trail heights marked_latest.first c' from marked_latest.rest
    marked_entry =
        let rest = marked_latest.rest in
        let pile : Pile n k T trail heights masks cells session.top (marked_latest.first ∷ rest) = subst
        (λ (saved : List (List ℕ)). Pile n k T trail heights masks cells session.top saved) marked_latest.are marked_working.pile in
        let length_is : length S.saved ≡ suc (length rest) = ap length marked_latest.are in
        let place : session.marks - 1 ≡ length rest = omega (arith, length_is, represents.marks_are) in
        let height : from ≡ get_or heights (length rest) 0 = from_is ∙ ap (λ (i : ℕ). get_or heights i 0) place in
        rw height (pile_first n k T trail heights masks cells session.top marked_latest.first rest pile)

    back_undoable : Undoable masks cells trail n k from session.top
    back_undoable =
        let entry = marked_entry.1 in
        let room = represents.room in
        record {
          sizes =
              record { slots = omega (arith, room.masks_inside); rows = room.rows; slots_fit = room.slots_fit; values_fit = room.values_fit };
          order = entry.order;
          upto = omega (arith, marked_working.base.room);
          old = marked_latest.first;
          old_cells = marked_entry.0;
          restores = entry.back;
        }

    module _ {masks' cells' : List ℕ} (undone : Undone masks cells trail n k from session.top masks' cells') (i : ℕ) where
      were : (masks' ≡ marked_latest.first) × (cells' ≡ marked_entry.0)
      were = undone.restored marked_latest.first marked_entry.0 marked_entry.1.back

      back_working : Working T R marked_latest.rest masks' cells' trail heights n k from
      back_working =
          rw (were.0, were.1)
          (record {
            rules = marked_working.rules;
            mirror = marked_entry.1.mirror;
            base = marked_entry.1.base;
            pile = marked_entry.2;
          })

      back_answered : Answered T R (act R S Calls.back) (stand (standing_of session.standing) i Calls.back (act R S Calls.back).1) masks' cells' trail
          heights n k (record { session = record { standing = Live; top = from; marks = session.marks - 1; idle = session.idle }; first = 3; second = 0 })
      unfolding stand
      back_answered =
          let room = represents.room in
          let length_is : length S.saved ≡ suc (length marked_latest.rest) = ap length marked_latest.are in
          rw (act_back R S marked_latest.first marked_latest.rest marked_latest.are)
          (record {
            represents =
                record {
                  room =
                      record {
                        masks_inside = ap length were.0 ∙ marked_entry.1.base.size;
                        rows = omega (arith, undone.cells_length, room.rows);
                        slots_fit = room.slots_fit;
                        values_fit = room.values_fit;
                        heights_fit = room.heights_fit;
                      };
                  suits = represents.suits;
                  masks_are = sym were.0;
                  flag = refl;
                  marks_are = omega (arith, length_is, represents.marks_are);
                  marks_in = omega (arith, represents.marks_in);
                  top_fits = omega (arith, back_working.base.room, room.heights_fit);
                  stands = back_working;
                };
            first = refl;
            second = refl;
            standing = refl;
          })

module _ {masks cells trail heights : List ℕ} {n k : ℕ} {session : Session} (backing : Backing masks cells trail heights n k session)
    {from : ℕ} (from_is : from ≡ get_or heights (session.marks - 1) 0) where
  pub backing_undoable : Undoable masks cells trail n k from session.top
  backing_undoable = back_undoable backing.running.represents backing.marked from from_is

  pub back_acts : {masks' cells' : List ℕ} → Undone masks cells trail n k from session.top masks' cells' → (i : ℕ)
      → Acts n k i Calls.back session masks cells trail heights masks' cells' trail heights
      (record { session = record { standing = Live; top = from; marks = session.marks - 1; idle = session.idle }; first = 3; second = 0 })
  back_acts undone i = record { does = λ T R S represents. back_answered represents backing.marked from from_is undone i }

-- ---- the calls that only read
act_show : (R : Rules) (S : State) (slot : ℕ) → act R S (Calls.show slot) ≡ (S, Machine.value (get_or S.masks slot 0))
unfolding act
act_show R S slot = refl

act_walls : (R : Rules) (S : State) (kind : Bool) (v : ℕ) → act R S (Calls.walls kind v) ≡ (S, Machine.value (R.standing kind S.masks v))
unfolding act
act_walls R S kind v = refl

read_answered : {T : Table} {R : Rules} {S : State} {masks cells trail heights : List ℕ} {n k : ℕ} {session : Session} (i : ℕ) (c : Calls.Call) (x y : ℕ)
    → Represents T R S masks cells trail heights n k session → act R S c ≡ (S, Machine.value x) → y ≡ x
    → Answered T R (act R S c) (stand (standing_of session.standing) i c (act R S c).1) masks cells trail heights n k
    (record { session = session; first = 2; second = y })
unfolding stand
read_answered i c x y represents acts same =
    rw acts (record { represents = represents; first = refl; second = same; standing = refl })

pub show_acts : (masks : List ℕ) (session : Session) (slot : ℕ) (cells trail heights : List ℕ) (n k i : ℕ)
    → Acts n k i (Calls.show slot) session masks cells trail heights masks cells trail heights
    (record { session = session; first = 2; second = get_or masks slot 0 })
show_acts masks session slot cells trail heights n k i =
    record {
      does = λ T R S represents.
          read_answered i (Calls.show slot) (get_or S.masks slot 0) (get_or masks slot 0) represents (act_show R S slot)
          (ap (λ (M : List ℕ). get_or M slot 0) (sym represents.masks_are));
    }

-- ---- walls
is_shut_lem : (standing : Standing) → is_shut standing ≡ true → standing ≡ OpenedDead
is_shut_lem OpenedDead shut = refl
is_shut_lem Live shut = absurd (true≢false (sym shut))
is_shut_lem (Dead call) shut = absurd (true≢false (sym shut))

pub opened_working : {T : Table} {R : Rules} {S : State} {masks cells trail heights : List ℕ} {n k : ℕ} {session : Session}
    → Represents T R S masks cells trail heights n k session → is_shut session.standing ≡ false
    → Working T R S.saved masks cells trail heights n k session.top
opened_working {T} {R} {S} {masks} {cells} {trail} {heights} {n} {k} {session} represents = go session.standing represents.stands
  where
    go : (standing : Standing) → StandsFor standing T R S.saved masks cells trail heights n k session.top → is_shut standing ≡ false
        → Working T R S.saved masks cells trail heights n k session.top
    go OpenedDead shut is = absurd (true≢false is)
    go Live working is = working
    go (Dead call) working is = working

-- the cells of a row count as many as the formula
walls_words : {n k : ℕ} {T : Table} {R : Rules} {saved : List (List ℕ)} {masks cells trail heights : List ℕ} {top : ℕ} (kind : Bool) (v : ℕ) → v < k
    → Working T R saved masks cells trail heights n k top → standing_in (gaps (cells_of kind n k v cells)) n ≡ R.standing kind masks v
walls_words {n} {k} {T} {R} {masks = masks} {cells = cells} true v v<k working =
    segments_standing (working.mirror.rows true v v<k) ∙ sym (working.rules.standing true masks v)
walls_words {n} {k} {T} {R} {masks = masks} {cells = cells} false v v<k working =
    segments_standing (working.mirror.rows false v v<k) ∙ sym (working.rules.standing false masks v)

row_below : {k v : ℕ} (kind : Bool) → v < k → row kind k v < k + k
row_below true v<k = omega (arith, v<k)
row_below false v<k = omega (arith, v<k)

-- the row lies within the cells
pub walls_row : {cells : List ℕ} {n k v start : ℕ} (lower : Bool) → Counting cells n k v → start ≡ row lower k v * (n + 2) → start + n + 1 < length cells
walls_row {n = n} {k} {v} lower counting start_is =
    omega (arith, counting.rows, start_is, row_inside n (k + k) (row lower k v) (row_below lower counting.value_in))

module _ {cells : List ℕ} {n k v : ℕ} {session : Session} (lower : Bool) where
  pub walls_shut : is_shut session.standing ≡ true → (masks trail heights : List ℕ) (i : ℕ)
      → Acts n k i (Calls.walls lower v) session masks cells trail heights masks cells trail heights
      (record { session = session; first = 2; second = 0 })
  walls_shut shut masks trail heights i =
      record {
        does = λ T R S represents.
            let none = subst (λ (standing : Standing). StandsFor standing T R S.saved masks cells trail heights n k session.top)
            (is_shut_lem session.standing shut) represents.stands in
            read_answered i (Calls.walls lower v) (R.standing lower S.masks v) 0 represents (act_walls R S lower v)
            (sym (none.standing lower S.masks v));
      }

  pub walls_stand : is_shut session.standing ≡ false → v < k → (x start : ℕ) → start ≡ row lower k v * (n + 2)
      → x ≡ standing_in (gaps (part start (n + 2) cells)) n
      → (masks trail heights : List ℕ) (i : ℕ)
      → Acts n k i (Calls.walls lower v) session masks cells trail heights masks cells trail heights
      (record { session = session; first = 2; second = x })
  walls_stand opened v<k x start start_is x_is masks trail heights i =
      record {
        does = λ T R S represents.
            let working = opened_working represents opened in
            read_answered i (Calls.walls lower v) (R.standing lower S.masks v) x represents (act_walls R S lower v)
            (rw start_is at x_is ∙ walls_words lower v v<k working ∙ ap (λ (M : List ℕ). R.standing lower M v) (sym represents.masks_are));
      }

bit_lt : (b : Bool) → bit b < 2
bit_lt true = omega arith
bit_lt false = omega arith

pub walls_most : (cells : List ℕ) (n x : ℕ) → x ≡ standing_in cells n → x ≤ n
walls_most cells n x x_is =
    rw x_is (count_bound (λ s. bit (ltb 0 (get_or cells (suc s) 0))) (λ s. bit_lt (ltb 0 (get_or cells (suc s) 0))) n)
