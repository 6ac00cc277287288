mod FieldLaws
mod RecordLaws
mod PassLaws
mod OrdersLaws
