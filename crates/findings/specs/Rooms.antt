-- The room for the reports of a sheet.
use Rattle.std.specs.Prelude.{ℕ, ◌+◌, ◌*◌}
use Rattle.findings.specs.declared.room.Room.{Room}

-- 3,000 records, and a page of 16,384 bytes
unfoldable pub sheet_room : Room
sheet_room = record { records = 3000; page = 16384 }

-- so many bytes hold a sheet whose reports take so many each: twice a report, or why there is none, and a heading
abbrev pub sheet_most : ℕ → ℕ
sheet_most most = (most + 108) * 2
