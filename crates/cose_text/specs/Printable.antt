-- Texts of printable ASCII characters alone: from the space (0x20) to the tilde (0x7e).
use Rattle.std.specs.Prelude.{◌≡◌, ℕ, Bool, true, List, nat_le, nat_lt, ◌&&◌}
use Rattle.std.specs.List.{list_all}
use Rattle.cose_head.specs.Placed.{Placed}
use Rattle.cose_text.specs.Date.{date_text}
use Rattle.cose_text.specs.Diagnostic.{diagnostic_of}
use Rattle.cose_text.specs.Quoted.{quoted}
use Rattle.cose_text.specs.declared.date.Date.{Date}

abbrev pub is_printable : ℕ → Bool
is_printable c = nat_le 0x20 c && nat_le c 0x7e

abbrev pub IsPrintable : List ℕ → Type 0
IsPrintable text = list_all is_printable text ≡ true

abbrev pub AreBytes : List ℕ → Type 0
AreBytes bytes = list_all (λ (byte : ℕ). nat_lt byte 256) bytes ≡ true

-- So is each text in quotes, whatever it holds, the notation of every item, and each date.
abbrev pub QuotesArePrintable : Type 0
QuotesArePrintable = (content : List ℕ) → IsPrintable (quoted content)

abbrev pub NotationIsPrintable : Type 0
NotationIsPrintable = (item : Placed) → AreBytes item.bytes → IsPrintable (diagnostic_of item)

abbrev pub DatesArePrintable : Type 0
DatesArePrintable = (date : Date) → IsPrintable (date_text date)
