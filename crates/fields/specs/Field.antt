-- A field of bytes: its place from..to, what is read there, which bytes are taken, what is written, which values may be written, and which
-- bytes a value uses. Fields are made of simple ones; what is wanted of each is `Lawful`.
-- Assumes nothing.
use Rattle.std.specs.Prelude.{◌≡◌, Bool, true, false, cond, ◌&&◌, ◌||◌, List, [], ◌∷◌, ℕ, ◌+◌, ◌*◌, ◌/◌, ◌%◌, ◌<◌, ◌≤◌, eqb, leb, ltb, length}
use Rattle.std.proofs.lemmas.List.Edits.{sets}
use Rattle.scan.specs.Scan.{byte_at, part_of}

pub record Field (A : Type 0) : Type 0 where
  pub from : ℕ
  pub to : ℕ
  pub read : List ℕ → A
  pub test : List ℕ → Bool
  pub write : A → List ℕ → List ℕ
  pub ok : A → Bool
  pub uses : A → ℕ → Bool

-- numbers that are bytes
abbrev pub Bytes : List ℕ → Type 0
Bytes b = (i : ℕ) → byte_at b i < 256

-- a and b are the same from..to
abbrev pub SameIn : ℕ → ℕ → List ℕ → List ℕ → Type 0
SameIn from to a b = (i : ℕ) → from ≤ i → i < to → byte_at a i ≡ byte_at b i

-- a and b are the same wherever the value x of a field uses them
abbrev pub SameWhere : {A : Type 0} → Field A → A → List ℕ → List ℕ → Type 0
SameWhere f x a b = (i : ℕ) → f.uses x i ≡ true → byte_at a i ≡ byte_at b i

-- what is wanted of a field
pub record Lawful {A : Type 0} (f : Field A) : Type 0 where
  pub span : f.from ≤ f.to
  -- writing leaves the length
  pub size : (x : A) (b : List ℕ) → length (f.write x b) ≡ length b
  -- no byte outside is looked at
  pub looks : (a b : List ℕ) → length a ≡ length b → SameIn f.from f.to a b → (f.test a ≡ f.test b) × (f.read a ≡ f.read b)
  -- what is taken is read as a value that may be written, and writing that changes nothing
  pub formed : (b : List ℕ) → f.to ≤ length b → Bytes b → f.test b ≡ true → f.ok (f.read b) ≡ true
  pub again : (b : List ℕ) → f.to ≤ length b → Bytes b → f.test b ≡ true → f.write (f.read b) b ≡ b
  -- what is written is taken, and read back
  pub back : (x : A) (b : List ℕ) → f.to ≤ length b → f.ok x ≡ true → (f.test (f.write x b) ≡ true) × (f.read (f.write x b) ≡ x)
  -- a value uses bytes of the field's place; writing it changes no others, and leaves nothing of what was there in these
  pub inside : (x : A) → f.ok x ≡ true → (i : ℕ) → f.uses x i ≡ true → (f.from ≤ i) × (i < f.to)
  pub keeps : (x : A) (b : List ℕ) → f.ok x ≡ true → (i : ℕ) → f.uses x i ≡ false → byte_at (f.write x b) i ≡ byte_at b i
  pub fixed : (x : A) (a b : List ℕ) → f.to ≤ length a → f.to ≤ length b → f.ok x ≡ true → SameWhere f x (f.write x a) (f.write x b)
  -- bytes that are taken tell by those that are used
  pub alike : (a b : List ℕ) → f.to ≤ length a → Bytes a → length a ≡ length b → f.test a ≡ true → SameWhere f (f.read a) a b →
      (f.test b ≡ true) × (f.read b ≡ f.read a)

-- two fields, the second behind the first, whose form may depend on what the first holds; they end at `to`
unfoldable pub then_field : {A B : Type 0} → Field A → (A → Field B) → ℕ → Field (A × B)
then_field f g to = record {
  from = f.from;
  to = to;
  read = λ b. (f.read b, (g (f.read b)).read b);
  test = λ b. f.test b && (g (f.read b)).test b;
  write = λ x b. (g x.0).write x.1 (f.write x.0 b);
  ok = λ x. f.ok x.0 && (g x.0).ok x.1;
  uses = λ x i. f.uses x.0 i || (g x.0).uses x.1 i;
}

abbrev pub both : {A B : Type 0} → Field A → Field B → Field (A × B)
both f g = then_field f (λ x. g) g.to

-- a field whose values keep a rule besides
unfoldable pub guarded : {A : Type 0} → Field A → (A → Bool) → Field A
guarded f p = record {
  from = f.from;
  to = f.to;
  read = f.read;
  test = λ b. f.test b && p (f.read b);
  write = f.write;
  ok = λ x. f.ok x && p x;
  uses = f.uses;
}

-- the same values in another form, those that keep `ok`: parts as rows, pairs as a record
unfoldable pub formed_as : {A B : Type 0} → Field A → (A → B) → (B → A) → (B → Bool) → Field B
formed_as f to from ok = record {
  from = f.from;
  to = f.to;
  read = λ b. to (f.read b);
  test = f.test;
  write = λ y b. f.write (from y) b;
  ok = ok;
  uses = λ y i. f.uses (from y) i;
}

-- a field that is read only from bytes that pass a test; others are not taken, and hold x
unfoldable pub only : {A : Type 0} → Field A → (List ℕ → Bool) → A → Field A
only f q x = record {
  from = f.from;
  to = f.to;
  read = λ b. cond (q b) (f.read b) x;
  test = λ b. q b && f.test b;
  write = f.write;
  ok = f.ok;
  uses = f.uses;
}

-- the three simple fields ----------------------------------------------------------------------------------------------------------------------

-- one byte
unfoldable pub byte_field : ℕ → Field ℕ
byte_field p = record {
  from = p;
  to = p + 1;
  read = λ b. byte_at b p;
  test = λ b. true;
  write = λ n b. sets b p (n ∷ []);
  ok = λ n. leb n 255;
  uses = λ n i. leb p i && ltb i (p + 1);
}

-- a number in two bytes, the low byte first
unfoldable pub two_at : List ℕ → ℕ → ℕ
two_at b i = byte_at b i + 256 * byte_at b (i + 1)

abbrev pub two : ℕ → List ℕ
two n = (n % 256) ∷ (n / 256) ∷ []

unfoldable pub two_field : ℕ → Field ℕ
two_field p = record {
  from = p;
  to = p + 2;
  read = λ b. two_at b p;
  test = λ b. true;
  write = λ n b. sets b p (two n);
  ok = λ n. leb n 65535;
  uses = λ n i. leb p i && ltb i (p + 2);
}

-- as many bytes as there is room for
unfoldable pub fit : ℕ → ℕ → ℕ
fit n room = cond (leb n room) n 0

-- n bytes at the front of a room; what is behind them is free
unfoldable pub bytes_field : ℕ → ℕ → ℕ → Field (List ℕ)
bytes_field p room n = record {
  from = p;
  to = p + room;
  read = λ b. part_of b p (p + fit n room);
  test = λ b. leb n room;
  write = λ v b. sets b p v;
  ok = λ v. leb n room && eqb (length v) n;
  uses = λ v i. leb p i && ltb i (p + length v);
}
