-- `csv_import::importing::write_book` meets its contract: header, masks and rows, stored one behind the other, are the book (`book_stored`). Assumes nothing.
use Rattle.csv_import.proofs.OrdersLaws.{book_stored}
use Rattle.csv_import.proofs.importing.write_book.Goals as goal

pub returns : goal.returns
returns c =
    book_stored c.args.out.now c.requires.0 c.full_mask.ensures c.write_header.ensures c.fill_masks.ensures c.write_rows.ensures
