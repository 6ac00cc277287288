-- `segments::fall` meets its contract. The invariant: from t on the search ends where it does from the slot (`Seeking`), t is at most n, and d is the cell
-- at t. The measure is what is left up to n: a link always leads forward. One hop: `seeking_first`, then `seeking_hop`. Each of the returns is one law of
-- `FellLaws`, on what the searches found and the stores left. Assumes nothing.
use mathlib.Core.Path.{◌≡◌, refl}
use mathlib.Core.List.{List}
use Prim.Native.Nat.{ℕ, ◌≤◌, ◌<◌}
use native.Mathlib.Omega.{arith}
use lib.ListN.{length, get_or}
use Rattle.segments_model.specs.Links.{next_of}
use Rattle.segments_model.proofs.LinksLaws.{seeking_first, seeking_hop, seeking_past, seeking_end}
use Rattle.segments.proofs.FellLaws.{Searched, searched_after, fell_clash, fell_none, fell_less, fell_used}
use Rattle.segments.proofs.fall.Goals as goal

-- what is known of t, where the search from the slot found it
searched : {n slot t : ℕ} {cells : List ℕ} → (slot < n) × (n < length cells) × (n < 1024) → get_or cells 0 0 ≤ slot → t ≡ next_of n slot cells
    → Searched n slot cells t
searched pre free found = record { slot_in = pre.0; cells_in = pre.1; few = pre.2; free = free; found = found }

pub returns-then-slot-z : goal.returns-then-slot-z
returns-then-slot-z c = fell_clash _ _ _ (omega arith)

pub returns-then-n-t : goal.returns-then-n-t
returns-then-n-t c =
    fell_none (searched c.requires c.if-slot-z.false (seeking_past (seeking_first _ c.requires.0 refl c.hop.ensures) c.if-n-t.true)) c.if-n-t.true

pub loop-d-init : goal.loop-d-init
loop-d-init c = (seeking_first _ c.requires.0 refl c.hop.ensures, omega (arith, c.if-n-t.false), refl)

pub returns-then-n-t-2 : goal.returns-then-n-t-2
returns-then-n-t-2 c =
    let inv = c.loop-d.invariant in
    fell_none (searched c.requires c.if-slot-z.false (seeking_past (seeking_hop inv.0 inv.1 inv.2) c.if-n-t-2.true)) c.if-n-t-2.true

pub loop-d-preserved : goal.loop-d-preserved
loop-d-preserved c =
    let inv = c.loop-d.invariant in
    (seeking_hop inv.0 inv.1 inv.2, omega (arith, c.if-n-t-2.false), refl)

pub returns-then-d-gt0 : goal.returns-then-d-gt0
returns-then-d-gt0 c =
    let inv = c.loop-d.invariant in
    let ended = searched c.requires c.if-slot-z.false (seeking_end inv.0 inv.1 (omega (arith, inv.2, c.loop-d-test.false))) in
    fell_less ended inv.1 _ _ inv.2 c.if-d-gt0.true refl

pub use_up-requires : goal.use_up-requires
use_up-requires c =
    let inv = c.loop-d.invariant in
    let ended = searched c.requires c.if-slot-z.false (seeking_end inv.0 inv.1 (omega (arith, inv.2, c.loop-d-test.false))) in
    (c.if-slot-z.false, searched_after ended, inv.1, c.requires.1, c.requires.2)

pub returns : goal.returns
returns c =
    let inv = c.loop-d.invariant in
    let ended = searched c.requires c.if-slot-z.false (seeking_end inv.0 inv.1 (omega (arith, inv.2, c.loop-d-test.false))) in
    fell_used ended inv.1 (omega (arith, inv.2, c.if-d-gt0.false)) refl _ _ c.use_up.ensures
