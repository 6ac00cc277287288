mod ColumnsLaws
