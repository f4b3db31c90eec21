pub mod ExtendedRows
