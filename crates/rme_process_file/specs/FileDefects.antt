-- Why bytes are no file of words.
use Rattle.std.specs.Prelude.{◌≡◌, ◌≢◌, ℕ, ◌+◌, ◌*◌, ◌<◌, false, List, [], length, take, codes, None}
use Rattle.rme_words.specs.declared.shape.Shape.{Shape}
use Rattle.rme_words.specs.Shapes.{IsWithinLimits}
use Rattle.rme_words.specs.Words.{word_count}
use Rattle.rme_process_file.specs.declared.file_defect.FileDefect.{FileDefect}
use Rattle.rme_process_file.specs.declared.file_defect.FileDefect.TheVariants.{NoMagic, TooShort, ByteOrder, Version, Limits, Size, Names, Rest, Moved, NoMemory}
use Rattle.rme_process_file.specs.ProcessFiles.{PageHasSizes, file_u64_at, is_file_version, life_count, is_zero_around_lives, with_name_fields}

-- The defect of the bytes. A shape here is that of the page.
abbrev pub HasFileDefect : List ℕ → FileDefect → Type 0
HasFileDefect bytes NoMagic = take 8 bytes ≢ codes "rmewords"
HasFileDefect bytes TooShort = length bytes < 4096
HasFileDefect bytes ByteOrder = file_u64_at bytes 2 ≢ 0x0102030405060708
HasFileDefect bytes Version = is_file_version (file_u64_at bytes 1) ≡ false
HasFileDefect bytes Limits =
    IsWithinLimits (file_u64_at bytes 8) (file_u64_at bytes 9) (file_u64_at bytes 10) (file_u64_at bytes 11) → ⊥
HasFileDefect bytes Size =
    (shape : Shape) → PageHasSizes bytes shape → file_u64_at bytes 12 ≡ word_count shape
    → length bytes ≡ 4096 + 8 * word_count shape → ⊥
HasFileDefect bytes Names = with_name_fields bytes (file_u64_at bytes 9) 0 [] ≡ None
HasFileDefect bytes Rest =
    is_zero_around_lives bytes (file_u64_at bytes 9) (life_count (file_u64_at bytes 1) (file_u64_at bytes 8)) ≡ false
HasFileDefect bytes Moved = 1 < file_u64_at bytes 13
HasFileDefect bytes NoMemory = Unit {0}
