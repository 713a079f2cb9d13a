-- What a pass reads of a line is all that it asks, and what it asks of it is what it asks of the line.
use mathlib.Core.Path.{◌≡◌, refl, sym, ap, ◌∙◌}
use mathlib.Core.Bool.{Bool, true, false, cond, ◌||◌}
use mathlib.Core.List.{List}
use Prim.Native.Nat.{ℕ, ◌+◌, ◌≤◌}
use native.Mathlib.Omega.{arith}
use lib.ListN.{get_or, drop}
use lib.Dec.{eqb}
use borrow.Author.Tests.{ne_eqb}
use Rattle.std.proofs.Common.{Ok}
use Rattle.columns.specs.declared.Fault.TheVariants.{Global as GlobalFault}
use Rattle.columns.specs.Columns.{columns}
use Rattle.columns.specs.Refusal.{demand}
use Rattle.columns.proofs.Columns.{columns-none, byte_of}
use Rattle.columns.proofs.Tests.{cond_cases}
use Rattle.std.specs.Prelude.{Option, Some, None}
use Rattle.values.specs.declared.Value.{Value}
use Rattle.values.specs.Strict.{strict_of}
use Rattle.records.proofs.Globals.{fits-seen}
use Rattle.sheets.specs.declared.Said.{Said}
use Rattle.sheets.specs.declared.Said.TheVariants.{Start, Global, Entry, Value as Given, Last, Nothing}
use Rattle.sheets.specs.Plain.{plain_of, is_plain}
use Rattle.sheets.specs.Line.{entry_of}
use Rattle.sheets.specs.Sheet.{Line, is_start, start_line, global_line, entry_line_of, value_of, last_line, by_mark, says_of, line_from, said_by}
use Rattle.model.specs.Write.{global_rule, row_rules, row_references, row_entity_rules}
use Rattle.sheets_rows.specs.Rows.{values_first}
use Rattle.write_lines.specs.Lines.{pass_of, no_rule, line_check, SheetPass}
use Rattle.write_lines.specs.Heads.{is_head, head_of, said_rule, said_references, said_entity}

-- ---- the first byte

module _ (b : ℕ) where
  pub head_e : b ≡ 69 → true ≡ is_head b
  unfolding is_head
  head_e e = rw e

  pub head-u : b ≡ 85 → true ≡ is_head b
  unfolding is_head
  head-u e = rw e

  pub head-g : (b ≡ 69 → ⊥) → (b ≡ 85 → ⊥) → eqb b 71 ≡ is_head b
  unfolding is_head
  head-g h k = simp (ne_eqb b 69 h, ne_eqb b 85 k)

pub ruleset bytes = (head_e, head-u, head-g)

module _ (t : List ℕ) (at end : ℕ) where
  pub head-none : end ≡ at → Nothing false ≡ head_of (columns t at end)
  unfolding head_of is_head
  head-none e = rw (e, columns-none t at)

  module _ (lo : at ≤ end) (h : end ≡ at → ⊥) (b : Bool) (eb : b ≡ is_head (get_or t at 0)) where
    first : get_or (columns t at end) 0 0 ≡ get_or t at 0
    first =
        let z : at + 0 ≡ at = omega arith in
        byte_of t at end 0 (omega arith) ∙ ap (λ (k : ℕ). get_or t k 0) z

    pub head_read : (x : Said) → b ≡ true → x ≡ says_of (columns t at end) → x ≡ head_of (columns t at end)
    unfolding head_of
    head_read x e ex = rw (first, ← eb, e) ex

    pub head-other : b ≡ false → Nothing false ≡ head_of (columns t at end)
    unfolding head_of
    head-other e = rw (first, ← eb, e)

pub ruleset heads = (head-none, head_read, head-other)

-- ---- another line is no G line and no entry line

abbrev pub Quiet : Said → Type 0
Quiet Start = Unit {0}
Quiet (Global n at v) = ⊥
Quiet (Entry known n x) = ⊥
Quiet (Given reference v) = Unit {0}
Quiet (Last n) = Unit {0}
Quiet (Nothing b) = Unit {0}

quiet_value : (reference : Bool) (s : Option Value) → Quiet (value_of reference s)
quiet_value reference (Some v) = tt
quiet_value reference None = tt

quiet_mark : (b : ℕ) (l t : List ℕ) → is_head b ≡ false → Quiet (by_mark b l t)
unfolding is_head by_mark start_line last_line
quiet_mark b l t h = by (eqb b 69) (eqb b 85) (eqb b 71) h
  where
    by : (x y z : Bool) → x || (y || z) ≡ false
        → Quiet (cond (eqb b 83) (cond (is_start t) Start (Nothing false))
        (cond z (global_line t) (cond (x || y) (entry_line_of (entry_of l)) (cond (eqb b 82) (value_of true (strict_of t)) (cond (eqb b 86) (value_of false (strict_of t)) (cond (eqb b 90) (cond (is_plain t) (Last (plain_of t)) (Nothing false)) (Nothing false)))))))
    by false false false e =
        cond_cases Quiet (eqb b 83) _ _ (λ _. cond_cases Quiet (is_start t) Start (Nothing false) (λ _. tt) (λ _. tt))
        (λ _. cond_cases Quiet (eqb b 82) _ _ (λ _. quiet_value true (strict_of t))
        (λ _. cond_cases Quiet (eqb b 86) _ _ (λ _. quiet_value false (strict_of t))
        (λ _. cond_cases Quiet (eqb b 90) _ _ (λ _. cond_cases Quiet (is_plain t) (Last (plain_of t)) (Nothing false) (λ _. tt) (λ _. tt)) (λ _. tt))))
    by true y z e = let k : ◌≡◌ {A = ℕ} 0 1 = cc in absurd (omega arith)
    by false true z e = let k : ◌≡◌ {A = ℕ} 0 1 = cc in absurd (omega arith)
    by false false true e = let k : ◌≡◌ {A = ℕ} 0 1 = cc in absurd (omega arith)

quiet_line : (l : List ℕ) → is_head (get_or l 0 0) ≡ false → Quiet (says_of l)
unfolding says_of
quiet_line l h = cond_cases Quiet (eqb (get_or l 1 0) 9) _ _ (λ _. quiet_mark (get_or l 0 0) l (drop 2 l) h) (λ _. tt)

-- ---- so a pass may leave it unread

-- what is told of a line that is neither is told of one that says nothing
module _ {A : Type 0} (tell : Said → A) (same : (x : Said) → Quiet x → tell x ≡ tell (Nothing false)) where
  pub head-tells : (l : List ℕ) → tell (head_of l) ≡ tell (says_of l)
  unfolding head_of
  head-tells l = by (is_head (get_or l 0 0)) refl
    where
      by : (b : Bool) → is_head (get_or l 0 0) ≡ b → tell (cond b (says_of l) (Nothing false)) ≡ tell (says_of l)
      by true e = refl
      by false e = sym (same (says_of l) (quiet_line l e))

-- ---- 8; 9, 13

said_rule_lem : (place : ℕ) (l : List ℕ) (ls : List Line) (x : Said) → said_rule place x ≡ line_check global_rule row_rules place (line_from l x) ls
said_rule_lem place l ls Start = refl
said_rule_lem place l ls (Global n at v) = ap (λ (b : Bool). pass_of (demand b GlobalFault place)) (fits-seen (drop at l) n v)
said_rule_lem place l ls (Entry known n x) = refl
said_rule_lem place l ls (Given reference v) = refl
said_rule_lem place l ls (Last n) = refl
said_rule_lem place l ls (Nothing b) = refl

pub rule_said : (place : ℕ) (l : List ℕ) (ls : List Line) (x : Said) → x ≡ says_of l → said_rule place x ≡ line_check global_rule row_rules place (said_by l) ls
unfolding said_by
rule_said place l ls x ex = ap (said_rule place) ex ∙ said_rule_lem place l ls (says_of l)

-- ---- 10

module _ (types : List ℕ) (place : ℕ) where
  said-references : (l : List ℕ) (ls : List Line) (x : Said) → said_references types place x ≡ line_check no_rule (row_references types) place (line_from l x) ls
  said-references l ls Start = refl
  said-references l ls (Global n at v) = refl
  said-references l ls (Entry known n x) = refl
  said-references l ls (Given reference v) = refl
  said-references l ls (Last n) = refl
  said-references l ls (Nothing b) = refl

  quiet_references : (x : Said) → Quiet x → said_references types place x ≡ Ok tt
  quiet_references Start q = refl
  quiet_references (Global _ _ _) q = elim q [ ]
  quiet_references (Entry _ _ _) q = elim q [ ]
  quiet_references (Given reference v) q = refl
  quiet_references (Last n) q = refl
  quiet_references (Nothing b) q = refl

  pub references-line : (l : List ℕ) (ls : List Line) (x : Said) (r : SheetPass) → x ≡ head_of l → r ≡ said_references types place x
      → r ≡ line_check no_rule (row_references types) place (said_by l) ls
  unfolding said_by
  references-line l ls x r ex er =
      er ∙ ap (said_references types place) ex ∙ head-tells (said_references types place) quiet_references l ∙ said-references l ls (says_of l)

-- ---- 14, 15, 18

module _ (list : ℕ) (types : List ℕ) (place : ℕ) (ls : List Line) where
  said-entity : (l : List ℕ) (x : Said) → said_entity list types place (values_first ls) x ≡ line_check no_rule (row_entity_rules list types) place (line_from l x) ls
  said-entity l Start = refl
  said-entity l (Global n at v) = refl
  said-entity l (Entry known n x) = refl
  said-entity l (Given reference v) = refl
  said-entity l (Last n) = refl
  said-entity l (Nothing b) = refl

  quiet_entity : (x : Said) → Quiet x → said_entity list types place (values_first ls) x ≡ Ok tt
  quiet_entity Start q = refl
  quiet_entity (Global _ _ _) q = elim q [ ]
  quiet_entity (Entry _ _ _) q = elim q [ ]
  quiet_entity (Given reference v) q = refl
  quiet_entity (Last n) q = refl
  quiet_entity (Nothing b) q = refl

  pub entity-line : (l : List ℕ) (x : Said) (r : SheetPass) → x ≡ head_of l → r ≡ said_entity list types place (values_first ls) x
      → r ≡ line_check no_rule (row_entity_rules list types) place (said_by l) ls
  unfolding said_by
  entity-line l x r ex er =
      er ∙ ap (said_entity list types place (values_first ls)) ex ∙ head-tells (said_entity list types place (values_first ls)) quiet_entity l ∙ said-entity l (says_of l)
