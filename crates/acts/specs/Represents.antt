-- When the lent slices and a session stand for a state S of the plain machine with the rules R, by the closed table T.
--   Room          the slices have room for n slots and k values
--   Suits         the rules' sizes are those of the slices, and their ones leave the idle value out
--   Governs       the rules settle and count walls by the closed table T
--   Base          a stable list M at the trail's height h, with room on the trail for every value that is left
--   Entry         the strikes from the height g on, taken back from M and its cells, lead to M' and the cells that mirrored it
--   Pile          each saved list of the machine, the latest first, is an Entry; heights holds the trail's height at each
--   Working       a session that opened live: the cells mirror T and the masks, the masks are stable, and the saved lists are a Pile
--   Shut          a session that opened dead: nothing is saved, and no wall stands
--   Represents    the whole
--   Running       it stands for some state of some machine, by some table
-- Only Pile says what the heights are. Assumes nothing.
use Rattle.std.specs.Prelude.{◌≡◌, Bool, List, [], ◌∷◌, ℕ, ◌+◌, ◌*◌, ◌-◌, ◌≤◌, ◌<◌, length, get_or}
use Rattle.domains.specs.Masks.{total}
use Rattle.closing_model.specs.Table.{Table, Closed}
use Rattle.settling_model.specs.Settled.{LacksAt}
use Rattle.settling_model.specs.Settling.{settling}
use Rattle.settling_model.specs.Stable.{Stable, table_bounds}
use Rattle.filter_model.specs.Mirror.{Mirror}
use Rattle.filter_model.specs.Open.{cells_size}
use Rattle.filter_model.specs.Trail.{Restores}
use Rattle.session_model.specs.News.{news_total}
use Rattle.session_model.specs.State.{Rules, State}
use Rattle.session_model.specs.Walls.{wall_count}
use Rattle.acts.specs.Given.{is_dead}
use Rattle.acts.specs.declared.Session.{Session}
use Rattle.acts.specs.declared.Standing.{Standing}
use Rattle.acts.specs.declared.Standing.TheVariants.{OpenedDead, Live, Dead}

pub record Room (masks cells trail : List ℕ) (n k : ℕ) : Type 0 where
  pub masks_inside : length masks ≡ n
  pub rows : cells_size n k ≤ length cells
  -- a slot fits a byte of the trail, a value the mask, and a height 16 bits
  pub slots_fit : n ≤ 256
  pub values_fit : k ≤ 32
  pub heights_fit : length trail < 65536

pub record Suits (R : Rules) (n k most idle : ℕ) : Type 0 where
  pub slots : R.slots ≡ n
  pub values : R.values ≡ k
  pub limit : R.limit ≡ most
  pub ones : (M : List ℕ) → R.ones M ≡ news_total idle M
  pub idle_known : idle ≤ k

pub record Governs (R : Rules) (n k : ℕ) (T : Table) : Type 0 where
  pub closed : Closed n k T
  pub settle : (M : List ℕ) → R.settle M ≡ settling (table_bounds n k T) M
  pub standing : (kind : Bool) (M : List ℕ) (v : ℕ) → R.standing kind M v ≡ wall_count kind n T M v

pub record Base (n k : ℕ) (T : Table) (bytes : ℕ) (M : List ℕ) (h : ℕ) : Type 0 where
  pub size : length M ≡ n
  pub stable : Stable (table_bounds n k T) M
  pub values : (s w : ℕ) → k ≤ w → LacksAt M s w
  pub room : 2 * n + 3 * (h + total M) ≤ bytes

pub record Entry (n k : ℕ) (T : Table) (trail M cells : List ℕ) (h : ℕ) (M' cells' : List ℕ) (g : ℕ) : Type 0 where
  pub order : g ≤ h
  pub back : Restores n k trail g (h - g) M cells M' cells'
  pub mirror : Mirror n k T M' cells'
  pub base : Base n k T (length trail) M' g

unfoldable pub Pile : ℕ → ℕ → Table → List ℕ → List ℕ → List ℕ → List ℕ → ℕ → List (List ℕ) → Type 0
Pile n k T trail heights M cells h [] = Unit {0}
Pile n k T trail heights M cells h (M' ∷ saved) =
    (cells' : List ℕ) × Entry n k T trail M cells h M' cells' (get_or heights (length saved) 0)
    × Pile n k T trail heights M' cells' (get_or heights (length saved) 0) saved

pub record Working (T : Table) (R : Rules) (saved : List (List ℕ)) (masks cells trail heights : List ℕ) (n k top : ℕ) : Type 0 where
  pub rules : Governs R n k T
  pub mirror : Mirror n k T masks cells
  pub base : Base n k T (length trail) masks top
  pub pile : Pile n k T trail heights masks cells top saved

pub record Shut (R : Rules) (saved : List (List ℕ)) : Type 0 where
  pub saved_none : saved ≡ []
  pub standing : (kind : Bool) (M : List ℕ) (v : ℕ) → R.standing kind M v ≡ 0

abbrev pub StandsFor : Standing → Table → Rules → List (List ℕ) → List ℕ → List ℕ → List ℕ → List ℕ → ℕ → ℕ → ℕ → Type 0
StandsFor OpenedDead T R saved masks cells trail heights n k top = Shut R saved
StandsFor Live T R saved masks cells trail heights n k top = Working T R saved masks cells trail heights n k top
StandsFor (Dead call) T R saved masks cells trail heights n k top = Working T R saved masks cells trail heights n k top

pub record Represents (T : Table) (R : Rules) (S : State) (masks cells trail heights : List ℕ) (n k : ℕ) (session : Session) : Type 0 where
  pub room : Room masks cells trail n k
  pub suits : Suits R n k (length heights) session.idle
  pub masks_are : S.masks ≡ masks
  pub flag : S.dead ≡ is_dead session.standing
  pub marks_are : length S.saved ≡ session.marks
  pub marks_in : session.marks ≤ length heights
  -- the trail's height fits 16 bits
  pub top_fits : session.top < 65536
  pub stands : StandsFor session.standing T R S.saved masks cells trail heights n k session.top

pub record Running (masks cells trail heights : List ℕ) (n k : ℕ) (session : Session) : Type 0 where
  pub table : Table
  pub rules : Rules
  pub state : State
  pub represents : Represents table rules state masks cells trail heights n k session
