-- Names and paths. A path is the list of its names, the root the empty list.
use Rattle.std.specs.Prelude.{ℕ, ◌==◌, nat_le, Bool, true, false, if◌then◌else◌, ◌&&◌, ◌||◌, not, List, [], ◌∷◌, Option, Some, None}
use Rattle.std.specs.declared.cmp.Ordering.{Ordering}
use Rattle.std.specs.List.{flat_map, list_all, slice_split}
use Rattle.std.specs.Ordering.{nat_cmp, is_eq}
use Rattle.std.specs.Cmp.Lexicographic.{slice_cmp}

-- a name, by its UTF-8 bytes
abbrev pub Name : Type 0
Name = List ℕ

-- a path, by its names
abbrev pub PathNames : Type 0
PathNames = List Name

-- names are ordered by their bytes
abbrev pub name_cmp : Name → Name → Ordering
name_cmp = slice_cmp nat_cmp

-- paths are ordered as lists of names, so a parent stands before its children
abbrev pub path_cmp : PathNames → PathNames → Ordering
path_cmp = slice_cmp name_cmp

-- no byte tells them apart
abbrev pub same_name : Name → Name → Bool
same_name a b = is_eq (name_cmp a b)

-- no name tells them apart
abbrev pub same_path : PathNames → PathNames → Bool
same_path p q = is_eq (path_cmp p q)

-- the root has no names
abbrev pub is_root : PathNames → Bool
is_root [] = true
is_root (n ∷ p) = false

-- the path of the parent; the root's is the root
abbrev pub parent : PathNames → PathNames
parent [] = []
parent (n ∷ []) = []
parent (n ∷ m ∷ q) = n ∷ parent (m ∷ q)

-- the last name; the root has none
abbrev pub last_name : PathNames → Name
last_name [] = []
last_name (n ∷ []) = n
last_name (n ∷ m ∷ q) = last_name (m ∷ q)

-- a control character of one byte, the space, the slash or the character 7F
abbrev pub is_barred_byte : ℕ → Bool
is_barred_byte c = nat_le c 32 || (c == 47) || (c == 127)

-- the first byte of U+0080 to U+009F, whose second byte is at most 9F
abbrev pub is_barred_pair : ℕ → List ℕ → Bool
is_barred_pair c [] = false
is_barred_pair c (d ∷ ds) = (c == 194) && nat_le d 159

-- whether a character stands there that no name has
abbrev pub has_barred : List ℕ → Bool
has_barred [] = false
has_barred (c ∷ cs) = is_barred_byte c || is_barred_pair c cs || has_barred cs

-- the empty name, `.` and `..`
abbrev pub is_dots : Name → Bool
is_dots [] = true
is_dots (a ∷ []) = a == 46
is_dots (a ∷ b ∷ []) = (a == 46) && (b == 46)
is_dots (a ∷ b ∷ c ∷ n) = false

-- A name isn't empty, is neither `.` nor `..`, and has no slash, no space and no control character.
abbrev pub is_name : Name → Bool
is_name n = not (is_dots n) && not (has_barred n)

-- each of these is a name
abbrev pub are_names : List Name → Bool
are_names = list_all is_name

-- the byte that stands before each name
abbrev pub is_slash : ℕ → Bool
is_slash c = c == 47

-- the pieces between slashes
abbrev pub pieces : List ℕ → List Name
pieces = slice_split is_slash

-- these names where each is one
abbrev pub if_names : List Name → Option PathNames
if_names ns = if are_names ns then Some ns else None

-- what follows the first slash
abbrev pub path_behind : List ℕ → Option PathNames
path_behind [] = Some []
path_behind (c ∷ cs) = if_names (pieces (c ∷ cs))

-- The path that a text means: `/`, or one or more names, each after a slash.
abbrev pub path_of : List ℕ → Option PathNames
path_of [] = None
path_of (c ∷ cs) = if is_slash c then path_behind cs else None

-- each name after a slash
abbrev pub names_text : List Name → List ℕ
names_text = flat_map (λ n. 47 ∷ n)

-- the text of a path
abbrev pub path_text : PathNames → List ℕ
path_text [] = 47 ∷ []
path_text (n ∷ ns) = names_text (n ∷ ns)
