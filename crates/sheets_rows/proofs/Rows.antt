-- The lines of a sheet give back its entries' values and types. Assumes nothing.
use mathlib.Core.Path.{◌≡◌, refl, ap, ◌∙◌}
use mathlib.Core.Bool.{Bool}
use mathlib.Core.List.{List, [], ◌∷◌, map}
use Prim.Native.Nat.{ℕ, ◌+◌}
use native.Mathlib.Omega.{arith}
use Rattle.values.specs.Value.{Item}
use Rattle.sheets.specs.declared.Said.{Said}
use Rattle.sheets.specs.declared.Said.TheVariants.{Start, Global, Entry, Value as Given, Last, Nothing}
use Rattle.sheets.specs.Reading.{NoValue}
use Rattle.sheets.specs.Sheet.{Line, start, global, value, none, is_mark, last_piece, Row, Sheet, start_lines, global_lines, value_lines, row_lines, lines_of, line_from}
use Rattle.sheets_rows.specs.Rows.{onward, first_among, past, behind_of, all_of, value_given, values_first, type_given, types_in}

-- ---- lines of one kind

-- where those that stand first give nothing, all lines are behind them
pub behind-none : {A : Type 0} (gives : Line → List A) (ls : List Line) → first_among gives ls ≡ [] → behind_of gives ls ≡ ls
behind-none gives [] e = refl
behind-none {A} gives (l ∷ ls) e = by (gives l) e
  where
    by : (xs : List A) → onward xs (first_among gives ls) ≡ [] → past xs (l ∷ ls) (behind_of gives ls) ≡ l ∷ ls
    by [] e = refl
    by (x ∷ xs) e = let z : ◌≡◌ {A = ℕ} 0 1 = cc in absurd (omega arith)

-- a piece that no LF ends gives nothing
pub piece_gives_none : {A : Type 0} (gives : Line → List A) → ((b : Bool) → gives (none b) ≡ []) → (t : List ℕ) → first_among gives (last_piece t) ≡ []
unfolding last_piece
piece_gives_none gives h [] = refl
piece_gives_none gives h (b ∷ bs) = rw (h (is_mark b))

-- a line is made of each of a list, and others stand behind these
pub record Lays {X : Type 0} (made : X → Line) (lay : List X → List Line → List Line) : Type 0 where
  pub none : (ls : List Line) → lay [] ls ≡ ls
  pub more : (x : X) (xs : List X) (ls : List Line) → lay (x ∷ xs) ls ≡ made x ∷ lay xs ls

module _ {X : Type 0} {made : X → Line} {lay : List X → List Line → List Line} (h : Lays made lay) where
  -- lines of the kind, and behind them none
  module _ (gives : Line → List X) (one : (x : X) → gives (made x) ≡ x ∷ []) (ls : List Line) (e : first_among gives ls ≡ []) where
    pub first_laid : (xs : List X) → first_among gives (lay xs ls) ≡ xs
    first_laid [] = ap (first_among gives) (h.none ls) ∙ e
    first_laid (x ∷ xs) = rw (h.more x xs ls, one x, first_laid xs)

    pub behind-laid : (xs : List X) → behind_of gives (lay xs ls) ≡ ls
    behind-laid [] = ap (behind_of gives) (h.none ls) ∙ behind-none gives ls e
    behind-laid (x ∷ xs) = rw (h.more x xs ls, one x) (behind-laid xs)

  -- lines of another kind
  pub all_laid : {A : Type 0} (gives : Line → List Line → List A) → ((x : X) (ls : List Line) → gives (made x) ls ≡ []) → (xs : List X) (ls : List Line)
      → all_of gives (lay xs ls) ≡ all_of gives ls
  all_laid gives not [] ls = ap (all_of gives) (h.none ls)
  all_laid gives not (x ∷ xs) ls = rw (h.more x xs ls, not x (lay xs ls)) (all_laid gives not xs ls)

-- ---- those of a sheet

pub starts-laid : Lays start start_lines
unfolding start_lines
starts-laid = record { none = λ ls. refl; more = λ x xs ls. refl }

pub globals-laid : Lays (λ (g : ℕ × Item). global g.0 g.1) global_lines
unfolding global_lines
globals-laid = record { none = λ ls. refl; more = λ x xs ls. refl }

pub values_laid : Lays (λ (v : Bool × Item). value v.0 v.1) value_lines
unfolding value_lines
values_laid = record { none = λ ls. refl; more = λ x xs ls. refl }

-- what entry lines and value lines alone give, the rows give
pub all_sheet : {A : Type 0} (gives : Line → List Line → List A) → ((t : List ℕ) (ls : List Line) → gives (start t) ls ≡ [])
    → ((g : ℕ × Item) (ls : List Line) → gives (global g.0 g.1) ls ≡ []) → (s : Sheet) → all_of gives (lines_of s) ≡ all_of gives (row_lines 0 s.rows)
unfolding lines_of
all_sheet gives no_start no_global s =
    all_laid starts-laid gives no_start s.starts (global_lines s.globals (row_lines 0 s.rows))
    ∙ all_laid globals-laid gives no_global s.globals (row_lines 0 s.rows)

-- ---- values

-- a line that says no value gives none
pub no_values : (l : List ℕ) (ls : List Line) (x : Said) → NoValue x → values_first (line_from l x ∷ ls) ≡ []
unfolding values_first
no_values l ls Start h = refl
no_values l ls (Global n at v) h = refl
no_values l ls (Entry known n fields) h = refl
no_values l ls (Given reference v) h = absurd h
no_values l ls (Last n) h = refl
no_values l ls (Nothing b) h = refl

-- the first of the rows begins with none
pub rows_no_value : (k : ℕ) (rs : List Row) → values_first (row_lines k rs) ≡ []
unfolding values_first row_lines
rows_no_value k [] = refl
rows_no_value k (r ∷ rs) = refl

-- behind an entry line stand its values
pub values_first_lem : (vs : List (Bool × Item)) (k : ℕ) (rs : List Row) → values_first (value_lines vs (row_lines k rs)) ≡ vs
unfolding values_first
values_first_lem vs k rs = first_laid values_laid value_given (λ v. refl) (row_lines k rs) (rows_no_value k rs) vs

-- ---- types

-- the type of an entry
abbrev pub row_type : Row → ℕ
row_type r = r.fields.entity.size

types-rows : (k : ℕ) (rs : List Row) → types_in (row_lines k rs) ≡ map row_type rs
unfolding types_in row_lines
types-rows k [] = refl
types-rows k (r ∷ rs) = rw (all_laid values_laid type_given (λ v ls. refl) r.values (row_lines (k + 1) rs), types-rows (k + 1) rs)

-- all entry lines
pub types-sheet : (s : Sheet) → types_in (lines_of s) ≡ map row_type s.rows
unfolding types_in
types-sheet s = all_sheet type_given (λ t ls. refl) (λ g ls. refl) s ∙ types-rows 0 s.rows
