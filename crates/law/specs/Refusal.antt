-- The number and the detail of each refusal of an archive.
use Rattle.std.specs.Prelude.{ℕ, Some, None, Option}
use Rattle.stores.specs.Refusal.{store_detail, store_number}
use Rattle.keeps.specs.Refusal.{keep_detail, keep_number}
use Rattle.law.specs.declared.fault.ArchiveFault.{ArchiveFault}
use Rattle.law.specs.declared.fault.ArchiveFault.TheVariants.{Key, Twice, FullPath, Store, Keep}

-- 4 KEY, 7 TWICE (cell), 8 FULL PATH, and those of the store and of the keep
abbrev pub archive_number : ArchiveFault → ℕ
archive_number Key = 4
archive_number (Twice cell) = 7
archive_number FullPath = 8
archive_number (Store f) = store_number f
archive_number (Keep f) = keep_number f

abbrev pub archive_detail : ArchiveFault → Option ℕ
archive_detail Key = None
archive_detail (Twice cell) = Some cell
archive_detail FullPath = None
archive_detail (Store f) = store_detail f
archive_detail (Keep f) = Some (keep_detail f)
