-- The diagnostic notation of an item as bytes: by its head and its children.
use Rattle.std.specs.Prelude.{ℕ, zero, suc, ◌-◌, pos, negsuc, List, [], ◌++◌, map, take, Option, Some, None, codes, nat_lt, ◌==◌, if◌then◌else◌}
use Rattle.std.specs.Fmt.{signed_decimal}
use Rattle.cose_head.specs.declared.head.Head.{Head}
use Rattle.cose_head.specs.Placed.{Placed, children_of, head_of_item, past_head, tag_in}
use Rattle.cose_text.specs.Diagnostic.{bytes_text, float_text, joined, simple_text, string_text, tag_text}

abbrev pub leaf_text : Head → Placed → List ℕ
leaf_text h p =
    if h.major == 0 then signed_decimal (pos h.arg) else
    if h.major == 1 then signed_decimal (negsuc h.arg) else
    if h.major == 2 then bytes_text (codes "h") (take h.arg (past_head h p).bytes) else
    if h.major == 3 then string_text (take h.arg (past_head h p).bytes) else
    if nat_lt 2 h.width then float_text (h.width - 1) h.arg else simple_text h.arg

abbrev pub list_text : List ℕ → List ℕ → List ℕ → List (List ℕ) → List ℕ
list_text open_mark after_first close_mark texts = open_mark ++ joined [] after_first (codes ", ") texts ++ close_mark

-- A tag, or else the text of a leaf.
abbrev pub tag_or : List ℕ → (Placed → List ℕ) → Option (ℕ × Placed) → List ℕ
tag_or leaf child (Some found) = tag_text found.0 (child found.1)
tag_or leaf child None = leaf

abbrev pub level_text : (Placed → List ℕ) → Head → Placed → List ℕ
level_text child h p =
    if h.major == 4 then list_text (codes "[") (codes ", ") (codes "]") (map child (children_of p)) else
    if h.major == 5 then list_text (codes "{") (codes ": ") (codes "}") (map child (children_of p)) else
    tag_or (leaf_text h p) child (tag_in p)

-- With this many levels: an item and its deepest child, counted together.
unfoldable pub item_text : ℕ → Placed → List ℕ
item_text zero p = []
item_text (suc depth) p = level_text (item_text depth) (head_of_item p) p
