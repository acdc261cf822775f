-- What `Debug` prints of bytes that may be a key's: a function of their number and place alone.
use Rattle.std.specs.Prelude.{ℕ, List, ◌++◌, codes}
use Rattle.std.specs.Fmt.{decimal}

-- In place of the bytes.
abbrev pub hidden_text : ℕ → List ℕ
hidden_text count = decimal count ++ codes " bytes"

-- Of an item.
abbrev pub item_text : ℕ → ℕ → List ℕ
item_text count place = codes "ItemRef { bytes: " ++ hidden_text count ++ codes ", place: " ++ decimal place ++ codes " }"

-- Of the children of an item that are left.
abbrev pub items_text : ℕ → ℕ → ℕ → List ℕ
items_text count place left =
    codes "Items { rest: " ++ hidden_text count ++ codes ", place: " ++ decimal place ++ codes ", left: " ++ decimal left ++ codes " }"
