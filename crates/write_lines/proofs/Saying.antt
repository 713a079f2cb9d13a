-- What a line says, and what is asked of it by itself: 8, 9, 13.
use mathlib.Core.Path.{◌≡◌, refl, sym, ap, ◌∙◌}
use mathlib.Core.Bool.{Bool, true, false}
use mathlib.Core.List.{List}
use Prim.Native.Nat.{ℕ, ◌+◌, ◌≤◌, ◌<◌}
use lib.ListN.{length, drop}
use Rattle.std.specs.Prelude.{Result, Ok, Err, ⊤}
use Rattle.columns.specs.declared.Refusal.{Refusal}
use Rattle.columns.specs.Refusal.{refusal_at}
use Rattle.columns.specs.declared.Fault.{Fault}
use Rattle.columns.specs.declared.Fault.TheVariants.{Global as GlobalFault}
use Rattle.columns.specs.declared.SheetLine.{SheetLine}
use Rattle.columns.specs.declared.Signed.{Signed}
use Rattle.columns.specs.Columns.{columns}
use Rattle.values.specs.declared.Value.{Value}
use Rattle.records.specs.Global.{global_fits}
use Rattle.directory.specs.declared.Fields.{Fields}
use Rattle.directory.specs.Asking.{outcome_of, rule_of}
use Rattle.directory.proofs.Ranges.{rule_outcome}
use Rattle.sheets.specs.declared.Said.{Said}
use Rattle.sheets.specs.declared.Said.TheVariants.{Global, Entry}
use Rattle.sheets.specs.Line.{run}
use Rattle.sheets.specs.Sheet.{says_of, said_by, lines_in}
use Rattle.sheets.specs.Order.{sheet_line}
use Rattle.model.specs.Write.{global_rule, row_rules}
use Rattle.write_lines.specs.Lines.{pass_of, or_else, line_check, lines_pass, SheetPass}
use Rattle.write_lines.specs.Heads.{said_rule}
use Rattle.write_lines.specs.Passes.{rules_pass}
use Rattle.write_lines.proofs.Lines.{or_good, or_assoc, pass-end, pass-piece, pass-line}
use Rattle.write_lines.proofs.Heading.{rule_said}
use Rattle.write_lines.proofs.Others.{rule_other}

module _ (place : ℕ) (x : Said) where
  module _ (n at : ℕ) (v : Value) (e : x ≡ Global n at v) (b : Bool) (eb : b ≡ global_fits n v) where
    pub global_good : b ≡ true → Ok tt ≡ said_rule place x
    global_good h = rw (e, ← eb, h)

    pub global_wrong : b ≡ false → Err (refusal_at GlobalFault (sheet_line place)) ≡ said_rule place x
    global_wrong h = rw (e, ← eb, h)

  module _ (known : Bool) (n : Signed) (fields : Fields) (e : x ≡ Entry known n fields) (rule : Result ⊤ Fault) (er : rule ≡ rule_of fields) where
    ruled : pass_of (outcome_of rule place) ≡ said_rule place x
    ruled = rw (e, er) (ap pass_of (rule_outcome fields place))

    pub entry_good : rule ≡ Ok tt → Ok tt ≡ said_rule place x
    entry_good h = rw h at ruled

    pub entry_refused : (m : Fault) → rule ≡ Err m → Err (refusal_at m (sheet_line place)) ≡ said_rule place x
    entry_refused m h = rw h at ruled

-- the first refusal so far stays
module _ (first : SheetPass) (place : ℕ) (x : Said) where
  pub too_refused : (w : Refusal SheetLine) → first ≡ Err w → Err w ≡ or_else first (said_rule place x)
  too_refused w e = rw e

  pub too_asked : (r : SheetPass) → first ≡ Ok tt → r ≡ said_rule place x → r ≡ or_else first (said_rule place x)
  too_asked r e er = rw e er

-- ---- a walk over lines: r is the answer

module _ (r : SheetPass) (t : List ℕ) (at place : ℕ) (first : SheetPass) (inv : or_else first (lines_pass global_rule row_rules place (lines_in (drop at t))) ≡ r) (n : ℕ) (all : n ≡ length t) where
  pub rules_end : n ≤ at → first ≡ r
  rules_end h = sym (or_good first) ∙ (rw (pass-end t at n all global_rule row_rules place h) at inv)

  module _ (end : ℕ) (lt : at < n) (lo : at ≤ end) (hi : end ≤ length t) (en : end ≡ at + run 10 (drop at t)) where
    pub rules_piece : end ≡ n → first ≡ r
    rules_piece h = sym (or_good first) ∙ (rw (pass-piece t at n all global_rule row_rules place end lt lo hi en h) at inv)

    -- a whole line
    pub rules_said : (end ≡ n → ⊥) → (x : Said) (y : SheetPass) → x ≡ says_of (columns t at end) → y ≡ or_else first (said_rule place x)
        → or_else y (lines_pass global_rule row_rules (place + 1) (lines_in (drop (end + 1) t))) ≡ r
    rules_said h x y ex ey =
        let q : said_rule place x ≡ line_check global_rule row_rules place (said_by (columns t at end)) (lines_in (drop (end + 1) t)) = rule_said place (columns t at end) (lines_in (drop (end + 1) t)) x ex in
        rw (ey, or_assoc first (said_rule place x) (lines_pass global_rule row_rules (place + 1) (lines_in (drop (end + 1) t))), q, ← pass-line t at n all global_rule row_rules place end lt lo hi en h) inv

pub rules_start : (t : List ℕ) → or_else (Ok tt) (lines_pass global_rule row_rules 1 (lines_in (drop 0 t))) ≡ rules_pass t
unfolding rules_pass
rules_start t = refl

pub ruleset asking = (rules_end, rules_piece, rules_said, rules_start)

pub ruleset saying = (too_refused, too_asked, global_good, global_wrong, entry_good, entry_refused, rule_other)
