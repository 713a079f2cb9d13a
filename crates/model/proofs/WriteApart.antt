-- What writing accepted, taken apart: each of its steps was accepted. Assumes nothing.
use mathlib.Core.Path.{◌≡◌, sym, ap, ◌∙◌}
use mathlib.Core.List.{List}
use Prim.Native.Nat.{ℕ, ◌≤◌}
use lib.Dec.{leb}
use borrow.Author.Tests.{leb-true}
use Rattle.columns.specs.declared.Fault.TheVariants.{ListOrLength}
use Rattle.columns.specs.Refusal.{accepted, demand, each_at}
use Rattle.columns.specs.Format.{most_list}
use Rattle.columns.proofs.Outcomes.{then_accepted, demand_accepted}
use Rattle.sheets.specs.Sheet.{Sheet, lines_in, sheet_of}
use Rattle.sheets.specs.Order.{read_sheet}
use Rattle.sheets.proofs.Sheets.{sheet_again, written_read}
use Rattle.model.specs.Model.{Model, model_of}
use Rattle.model.specs.Write.{one, row_size, first_global, first_row, global_rule, row_rules, row_references, row_entity_rules, row_types, sheet_rules, write_model}

-- what keeps the rules: 8 of each G line; of all entries 9 and 13, 10, and 14, 15 and 18
pub record RulesApart (list : ℕ) (s : Sheet) : Type 0 where
  pub fields : List (Unit {0})
  pub globals : each_at one global_rule (first_global s) s.globals ≡ accepted fields
  pub ranged : List (Unit {0})
  pub entries : each_at row_size row_rules (first_row s) s.rows ≡ accepted ranged
  pub named : List (Unit {0})
  pub references : each_at row_size (row_references (row_types s)) (first_row s) s.rows ≡ accepted named
  pub laid : List (Unit {0})
  pub entities : each_at row_size (row_entity_rules list (row_types s)) (first_row s) s.rows ≡ accepted laid

pub rules_apart : (list : ℕ) (s : Sheet) → sheet_rules list s ≡ accepted tt → RulesApart list s
unfolding sheet_rules
rules_apart list s h =
    let g = then_accepted (each_at one global_rule (first_global s) s.globals) _ tt h in
    let r = then_accepted (each_at row_size row_rules (first_row s) s.rows) _ tt g.second in
    let n = then_accepted (each_at row_size (row_references (row_types s)) (first_row s) s.rows) _ tt r.second in
    let l = then_accepted (each_at row_size (row_entity_rules list (row_types s)) (first_row s) s.rows) _ tt n.second in
    record {
      fields = g.value;
      globals = g.first;
      ranged = r.value;
      entries = r.first;
      named = n.value;
      references = n.first;
      laid = l.value;
      entities = l.first;
    }

-- what was accepted, 19 apart: the list is one, the text is a sheet, the one that its lines tell, which keeps the rules
pub record WriteApart (list : ℕ) (t : List ℕ) (m : Model) : Type 0 where
  pub listed : list ≤ most_list
  pub sheet : Sheet
  pub read : read_sheet t ≡ accepted sheet
  pub lines : sheet ≡ sheet_of (lines_in t)
  pub rules : sheet_rules list sheet ≡ accepted tt
  pub is : m ≡ model_of sheet

pub write_apart : (list : ℕ) (t : List ℕ) (m : Model) → write_model list t ≡ accepted m → WriteApart list t m
unfolding write_model
write_apart list t m h =
    let s₁ = then_accepted (demand (leb list most_list) ListOrLength 0) _ m h in
    let s₂ = then_accepted (read_sheet t) _ m s₁.second in
    let s₃ = then_accepted (sheet_rules list s₂.value) _ m s₂.second in
    let q = s₃.second in
    record {
      listed = leb-true list most_list (demand_accepted (leb list most_list) ListOrLength 0 s₁.first);
      sheet = s₂.value;
      read = s₂.first;
      lines = sym (ap sheet_of (written_read t s₂.value s₂.first).lines ∙ sheet_again s₂.value);
      rules = s₃.first;
      is = cc;
    }
