-- The shipped words. Document 01, section Commands: "28 commands, 42 aliases, 68 different words, as in default_cmds; numbers 0 to
-- 27 in its order. Added aliases are tried first, then shipped ones, then names."
-- Assumes nothing.
use Rattle.std.specs.Prelude.{Bool, true, false, ◌&&◌, List, [], ◌∷◌, ◌++◌, ℕ, eqb, Option, Some, None}
use Prim.Native.String.{String}
use Rattle.scan.specs.Ascii.{ascii}

-- a word and the command that it leads to
pub record Row : Type 0 where
  pub word : List ℕ
  pub command : ℕ

abbrev row : String → ℕ → Row
row w c = record { word = ascii w; command = c }

-- the shipped aliases, in the order of default_cmds
unfoldable pub aliases : List Row
aliases =
    row "&&" 1 ∷ row "~" 1 ∷ row "~&" 1 ∷ row "r" 2 ∷ row "p" 3 ∷ row "s" 4 ∷
    row "clo" 5 ∷ row "close" 5 ∷ row "on" 6 ∷ row "only" 6 ∷ row "q" 7 ∷ row "qa" 8 ∷
    row "qall" 8 ∷ row "quita" 8 ∷ row "res" 9 ∷ row "sp" 10 ∷ row "vs" 11 ∷ row "vsp" 11 ∷
    row "vie" 12 ∷ row "tabc" 14 ∷ row "tabe" 15 ∷ row "tabnew" 15 ∷ row "tabm" 16 ∷ row "tabn" 17 ∷
    row "tabo" 18 ∷ row "tabp" 19 ∷ row "tabN" 19 ∷ row "tabNext" 19 ∷ row "tabr" 20 ∷ row "tabrewind" 20 ∷
    row "tabfir" 20 ∷ row "tabl" 21 ∷ row "w" 22 ∷ row "wa" 23 ∷ row "hor" 24 ∷ row "vert" 25 ∷
    row "lefta" 26 ∷ row "leftabove" 26 ∷ row "abo" 26 ∷ row "rightb" 27 ∷ row "rightbelow" 27 ∷ row "bel" 27 ∷ []

-- the names
unfoldable pub names : List Row
names =
    row "!" 0 ∷ row "&" 1 ∷ row "read" 2 ∷ row "print" 3 ∷ row "substitute" 4 ∷ row "close" 5 ∷
    row "only" 6 ∷ row "quit" 7 ∷ row "quitall" 8 ∷ row "resize" 9 ∷ row "split" 10 ∷ row "vsplit" 11 ∷
    row "view" 12 ∷ row "tab" 13 ∷ row "tabclose" 14 ∷ row "tabedit" 15 ∷ row "tabmove" 16 ∷ row "tabnext" 17 ∷
    row "tabonly" 18 ∷ row "tabprevious" 19 ∷ row "tabfirst" 20 ∷ row "tablast" 21 ∷ row "write" 22 ∷ row "wall" 23 ∷
    row "horizontal" 24 ∷ row "vertical" 25 ∷ row "aboveleft" 26 ∷ row "belowright" 27 ∷ []

-- aliases first, then names
unfoldable pub shipped : List Row
shipped = aliases ++ names

-- the words that a line is run with: added aliases first, then those shipped
abbrev pub table_with : List Row → List Row
table_with added = added ++ shipped

-- two words are the same
unfoldable pub same : List ℕ → List ℕ → Bool
same [] [] = true
same [] (y ∷ ys) = false
same (x ∷ xs) [] = false
same (x ∷ xs) (y ∷ ys) = eqb x y && same xs ys

-- the command of the first row that has the word
unfoldable pub lookup_in : List Row → List ℕ → Option ℕ
lookup_in [] w = None
lookup_in (r ∷ rs) w = elim (same w r.word) [ true ↦ Some r.command | false ↦ lookup_in rs w ]

-- what a word leads to with the words as shipped
unfoldable pub lookup : List ℕ → Option ℕ
lookup w = lookup_in shipped w
