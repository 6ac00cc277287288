-- What a call does to the slices and the session, and its two words, by the plain machine.
--   Answered T R out St ..   the machine's state out .0 is represented by the table T, the words are those of its reply out .1, and the standing
--                          is St
--   Acts ..                so it is for the call c, whatever state of whatever machine the slices stood for, by whatever table, where no number
--                          refuses c
--   Deciding, Marking, Backing, Counting   what the calls need that no number refuses
--   Strikes n idle trail from to   the trail has a strike at each height from `from` up to `to`
--   news_struck idle n trail from j   how many of the j strikes from height `from` on took out another value than the idle one
--   OnesLost n idle trail from to x   x is that many of the strikes from height `from` up to `to`, and so the ones of the masks before them less those
--                          after them, the idle value left out, whatever masks they lead between
-- Assumes nothing.
use Rattle.std.specs.Prelude.{◌≡◌, List, ℕ, zero, suc, ◌+◌, ◌-◌, ◌*◌, ◌^◌, ◌≤◌, ◌<◌, length}
use Rattle.closing_model.specs.Table.{Table}
use Rattle.filter_model.specs.Open.{cells_size}
use Rattle.filter_model.specs.Trail.{value_at, Restores}
use Rattle.session_model.specs.Calls as Calls
use Rattle.session_model.specs.Machine.{act}
use Rattle.session_model.specs.News.{news, news_total}
use Rattle.session_model.specs.Standing as Model
use Rattle.session_model.specs.State.{Rules, State, Reply, words}
use Rattle.acts.specs.Given.{standing_of}
use Rattle.acts.specs.Represents.{Represents, Running}
use Rattle.acts.specs.declared.Session.{Session}
use Rattle.acts.specs.declared.Standing.TheVariants.{Live}
use Rattle.acts.specs.declared.Stepped.{Stepped}

pub record Answered (T : Table) (R : Rules) (out : State × Reply) (St : Model.Standing) (masks cells trail heights : List ℕ) (n k : ℕ)
    (r : Stepped) : Type 0 where
  pub represents : Represents T R out.0 masks cells trail heights n k r.session
  pub first : r.first ≡ (words out.1).0
  pub second : r.second ≡ (words out.1).1
  pub standing : standing_of r.session.standing ≡ St

pub record Acts (n k i : ℕ) (c : Calls.Call) (session : Session) (masks cells trail heights masks' cells' trail' heights' : List ℕ)
    (r : Stepped) : Type 0 where
  pub does : (T : Table) (R : Rules) (S : State) → Represents T R S masks cells trail heights n k session
      → Answered T R (act R S c) (Model.stand (standing_of session.standing) i c (act R S c).1) masks' cells' trail' heights' n k r

pub record Deciding (masks cells trail heights : List ℕ) (n k : ℕ) (session : Session) (slot v : ℕ) : Type 0 where
  pub running : Running masks cells trail heights n k session
  pub live : session.standing ≡ Live
  pub slot_in : slot < n
  pub value_in : v < k

pub record Strikes (n idle : ℕ) (trail : List ℕ) (from to : ℕ) : Type 0 where
  pub order : from ≤ to
  pub upto : 2 * n + 3 * to ≤ length trail
  -- a height fits 16 bits, and the idle value the mask
  pub heights_fit : length trail < 65536
  pub idle_fits : idle ≤ 32

unfoldable pub news_struck : ℕ → ℕ → List ℕ → ℕ → ℕ → ℕ
news_struck idle n trail from zero = 0
news_struck idle n trail from (suc j) = news_struck idle n trail from j + news idle (2 ^ value_at n trail (from + j))

pub record OnesLost (n idle : ℕ) (trail : List ℕ) (from to x : ℕ) : Type 0 where
  -- one for each strike of another value than the idle one, whatever the trail holds
  pub strikes : x ≡ news_struck idle n trail from (to - from)
  -- taken back, the strikes lead from the masks after them to those before
  pub difference : (k : ℕ) (before after cells cells' : List ℕ) → Restores n k trail from (to - from) after cells' before cells
      → x + news_total idle after ≡ news_total idle before

pub record Marking (heights : List ℕ) (session : Session) : Type 0 where
  pub live : session.standing ≡ Live
  pub free : session.marks < length heights
  pub fits : session.top < 65536

pub record Backing (masks cells trail heights : List ℕ) (n k : ℕ) (session : Session) : Type 0 where
  pub running : Running masks cells trail heights n k session
  pub marked : 0 < session.marks

pub record Counting (cells : List ℕ) (n k v : ℕ) : Type 0 where
  pub rows : cells_size n k ≤ length cells
  pub slots_fit : n ≤ 256
  pub values_fit : k ≤ 32
  pub value_in : v < k
