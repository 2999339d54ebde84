-- Document 01, "The graph file": its bytes. Assumes nothing.
use Rattle.std.specs.Prelude.{ℕ, zero, suc, ◌+◌, ◌-◌, ◌*◌, ◌/◌, List, [], Bool, true, ◌&&◌, length, get_or, take, drop, ltb, eqb}
use Rattle.laws.specs.Pick.{pick}
use Rattle.symbols.specs.Graph.{Id, Value}
use Rattle.formula.specs.declared.Formula.{Formula}

-- a file, and a record of it, are lists of bytes
abbrev pub File : Type 0
File = List ℕ

abbrev pub Record : Type 0
Record = List ℕ

-- a place in a file or a record
abbrev pub Place : Type 0
Place = ℕ

-- a byte past the end reads as 0
abbrev pub byte : File → Place → ℕ
byte s a = get_or s a 0

-- "little endian"
unfoldable pub le32 : File → Place → ℕ
le32 s a = byte s a + 256 * byte s (a + 1) + 65536 * byte s (a + 2) + 16777216 * byte s (a + 3)

unfoldable pub le64 : File → Place → Value
le64 s a = le32 s a + 4294967296 * le32 s (a + 4)

-- the k bytes from a are zero
unfoldable pub zeros : Record → Place → ℕ → Bool
zeros s a zero = true
zeros s a (suc k) = zeros s a k && eqb (byte s (a + k)) 0

-- "a 16-byte trailer"
unfoldable pub trailer_of : File → Record
trailer_of f = drop (length f - 16) f

-- "Trailer: u32 distance back from its start to the first record (16n), u32 root, u32 version 1, u32 zero."
abbrev pub distance_of : File → ℕ
distance_of f = le32 (trailer_of f) 0

abbrev pub root_of : File → Id
root_of f = le32 (trailer_of f) 4

abbrev pub version_of : File → ℕ
version_of f = le32 (trailer_of f) 8

abbrev pub last_of : File → ℕ
last_of f = le32 (trailer_of f) 12

abbrev pub first_of : File → Place
first_of f = length f - 16 - distance_of f

abbrev pub count_of : File → ℕ
count_of f = distance_of f / 16

-- the place of record 0, n, and the root, as the code hands them on
unfoldable pub formula_of : File → Formula
formula_of f = record { first = first_of f; count = count_of f; root = record { 0 = root_of f } }

-- "Record i is node i, and the record of a node is those sixteen bytes of the file itself." An id not below n has none.
unfoldable pub record_at : File → Formula → Id → Record
record_at f m i = pick (ltb i m.count) (take 16 (drop (m.first + 16 * i) f)) []
