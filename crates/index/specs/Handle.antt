-- What an `IndexedTable` says: the abstract table of its number list. Assumes nothing.
use Rattle.table.specs.Table.{Table}
use Rattle.table_index.specs.Index.{table_in}
use Rattle.index.specs.declared.IndexedTable.{IndexedTable}

abbrev pub table_of : IndexedTable → Table
table_of t = table_in t.list.now
