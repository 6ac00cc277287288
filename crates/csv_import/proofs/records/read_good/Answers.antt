-- `csv_import::records::read_good` meets its contract: a broken record is refused by 17 (`read_broken`), a whole one by what its fields say. Assumes nothing.
use Rattle.std.proofs.Common.{rules}
use lib.ListN.{drop}
use Rattle.csv_model.specs.Csv.{record_of}
use Rattle.csv_import.proofs.RecordLaws.{read_broken, read_wrong, read_sound}
use Rattle.csv_import.proofs.records.read_good.Goals as goal

pub returns-in_err-read : goal.returns-in_err-read
returns-in_err-read c =
    let told = read_broken (record_of (drop c.args.from c.args.text.now)) c.args.fields c.args.text.now c.in_err-read.ensures in
    search (rules, told)

pub returns-in_err-check_fields : goal.returns-in_err-check_fields
returns-in_err-check_fields c =
    let told = read_wrong _ c.args.text.now _ c.in_ok-read.ensures c.args.fields c.in_err-check_fields.field-0.0 c.in_err-check_fields.ensures in
    search (rules, told)

pub returns : goal.returns
returns c = read_sound _ c.args.text.now _ c.in_ok-read.ensures c.args.fields c.in_ok-check_fields.ensures
