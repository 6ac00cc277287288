-- `running::books::run_book` meets its contract: the list is run from the machine's opening, and demand 3 holds of that machine (`book_ran`). Assumes nothing.
use native.Mathlib.Omega.{arith}
use Rattle.running_model.proofs.BooksLaws.{opened_running, book_ran}
use Rattle.running.proofs.books.run_book.Goals as goal

pub slots-n-requires : goal.slots-n-requires
slots-n-requires c =
    let halfway = c in
    let start = halfway in
    omega (arith, start.requires.openable.state.rises.book.inside)

pub values-k-requires : goal.values-k-requires
values-k-requires c =
    let halfway = c in
    let start = halfway in
    omega (arith, start.requires.openable.state.rises.book.inside)

pub run-session-requires : goal.run-session-requires
run-session-requires c =
    let read = c in
    let opened = read in
    let start = opened in
    record {
      running = opened_running opened.open_session-fresh.ensures read.slots-n.ensures.0 read.values-k.ensures.0 start.args.heights.now;
      room = start.requires.room;
      numbers = omega (arith, start.well_formed.1.0);
    }

pub returns : goal.returns
returns c =
    let ran = c in
    let read = ran in
    let opened = read in
    let start = opened in
    let shut = read.is_shut-live in
    book_ran opened.open_session-fresh.ensures read.slots-n.ensures.0 read.values-k.ensures.0 start.args.heights.now start.args.calls.now
    shut.result shut.ensures ran.run-session.ensures
