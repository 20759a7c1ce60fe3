-- What a text that was read shows.
use Rattle.std.specs.Prelude.{◌≡◌, ℕ, true, List}
use Rattle.listing.specs.Lawful.{is_lawful}
use Rattle.text.specs.Reading.{meaning_of}
use Rattle.text.specs.declared.text.Text.{Text}

-- the bytes of the file that a text was read from
abbrev pub bytes_of : Text → List ℕ
bytes_of text = text.delivered.bytes.now

-- what those bytes mean is a lawful program
pub lawful_of : (text : Text) → is_lawful (meaning_of (bytes_of text)) ≡ true
lawful_of text = text.lawful
