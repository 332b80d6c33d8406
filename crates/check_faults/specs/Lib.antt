pub mod EntryErrorNames
