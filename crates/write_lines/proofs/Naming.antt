-- What entries name, and their entities, in one walk: 10 refuses at once; behind a refused entity only 10 is left to ask. Assumes nothing.
use mathlib.Core.Path.{◌≡◌, refl, sym, ap, ◌∙◌}
use mathlib.Core.List.{List}
use Prim.Native.Nat.{ℕ, ◌+◌, ◌≤◌, ◌<◌}
use native.Mathlib.Omega.{arith}
use lib.ListN.{length, drop}
use Rattle.std.proofs.Common.{Ok, Err}
use Rattle.columns.specs.declared.Refusal.{Refusal}
use Rattle.columns.specs.declared.SheetLine.{SheetLine}
use Rattle.columns.specs.Columns.{columns}
use Rattle.sheets.specs.declared.Said.{Said}
use Rattle.sheets.specs.Line.{run}
use Rattle.sheets.specs.Sheet.{lines_in}
use Rattle.model.specs.Write.{row_references, row_entity_rules}
use Rattle.sheets_rows.specs.Rows.{values_first}
use Rattle.write_lines.specs.Lines.{or_else, no_rule, Skipped, SheetPass}
use Rattle.write_lines.specs.Heads.{head_of, said_references, said_entity}
use Rattle.write_lines.specs.Classes.{sheet_types}
use Rattle.write_lines.specs.Passes.{references_from, entities_from, references_pass, entities_pass}
use Rattle.write_lines.proofs.Lines.{pass-end, pass-piece, pass-line, behind}
use Rattle.write_lines.proofs.Heading.{references-line, entity-line}

-- ---- behind a refused entity

module _ (p q s : SheetPass) (e : p ≡ s) where
  pub first_refused : (w : Refusal SheetLine) → p ≡ Err w → Err w ≡ or_else s q
  first_refused w h = rw (← e, h)

  pub first_good : p ≡ Ok tt → q ≡ or_else s q
  first_good h = rw (← e, h)

pub ruleset firsts = (first_refused, first_good)

-- ---- the passes from a place on

module _ (list : ℕ) (types t : List ℕ) (at place n : ℕ) (all : n ≡ length t) (r : SheetPass) where
  pub refer-end : references_from types t place at ≡ r → n ≤ at → Ok tt ≡ r
  refer-end inv h = sym (pass-end t at n all no_rule (row_references types) place h) ∙ inv

  pub names-end : or_else (references_from types t place at) (entities_from list types t place at) ≡ r → n ≤ at → Ok tt ≡ r
  names-end inv h = rw (pass-end t at n all no_rule (row_references types) place h, pass-end t at n all no_rule (row_entity_rules list types) place h) at inv

  module _ (end : ℕ) (lt : at < n) (lo : at ≤ end) (hi : end ≤ length t) (en : end ≡ at + run 10 (drop at t)) where
    pub refer-piece : references_from types t place at ≡ r → end ≡ n → Ok tt ≡ r
    refer-piece inv h = sym (pass-piece t at n all no_rule (row_references types) place end lt lo hi en h) ∙ inv

    pub names-piece : or_else (references_from types t place at) (entities_from list types t place at) ≡ r → end ≡ n → Ok tt ≡ r
    names-piece inv h = rw (pass-piece t at n all no_rule (row_references types) place end lt lo hi en h, pass-piece t at n all no_rule (row_entity_rules list types) place end lt lo hi en h) at inv

    module _ (h : end ≡ n → ⊥) (x : Said) (ex : x ≡ head_of (columns t at end)) (a : SheetPass) (ea : a ≡ said_references types place x) where
      references_line_first : references_from types t place at ≡ or_else a (references_from types t (place + 1) (end + 1))
      references_line_first =
          pass-line t at n all no_rule (row_references types) place end lt lo hi en h
          ∙ ap (λ (p : SheetPass). or_else p (references_from types t (place + 1) (end + 1))) (sym (references-line types place (columns t at end) (lines_in (drop (end + 1) t)) x a ex ea))

      pub refer-on : references_from types t place at ≡ r → a ≡ Ok tt → references_from types t (place + 1) (end + 1) ≡ r
      refer-on inv e = sym (references_line_first ∙ rw e) ∙ inv

      pub refer-here : {w : Refusal SheetLine} → references_from types t place at ≡ r → a ≡ Err w → Err w ≡ r
      refer-here inv e = sym (references_line_first ∙ rw e) ∙ inv

      module _ (inv : or_else (references_from types t place at) (entities_from list types t place at) ≡ r) where
        pub names-here : {w : Refusal SheetLine} → a ≡ Err w → Err w ≡ r
        names-here e = rw (references_line_first, e) at inv

        module _ (e : a ≡ Ok tt) (b : SheetPass) (eb : b ≡ said_entity list types place (values_first (lines_in (drop (end + 1) t))) x) where
          entities_line_first : entities_from list types t place at ≡ or_else b (entities_from list types t (place + 1) (end + 1))
          entities_line_first =
              pass-line t at n all no_rule (row_entity_rules list types) place end lt lo hi en h
              ∙ ap (λ (p : SheetPass). or_else p (entities_from list types t (place + 1) (end + 1))) (sym (entity-line list types place (lines_in (drop (end + 1) t)) (columns t at end) x b ex eb))

          both : or_else (references_from types t (place + 1) (end + 1)) (or_else b (entities_from list types t (place + 1) (end + 1))) ≡ r
          both = rw (references_line_first, e, entities_line_first) at inv

          pub names-on : b ≡ Ok tt → (next lines : ℕ) → Skipped t (end + 1) next lines
              → or_else (references_from types t (place + (1 + lines)) next) (entities_from list types t (place + (1 + lines)) next) ≡ r
          names-on eg next lines s =
              let z : place + (1 + lines) ≡ place + 1 + lines = omega arith in
              rw (z, s.same no_rule (row_references types) (place + 1), s.same no_rule (row_entity_rules list types) (place + 1)) (rw eg at both)

          pub names_last : {w : Refusal SheetLine} → b ≡ Err w → (q : SheetPass) → q ≡ or_else (references_from types t (place + 1) (end + 1)) (Err w) → q ≡ r
          names_last eg q eq = rw eq (rw eg at both)

pub names-start : (list : ℕ) (t : List ℕ) → or_else (references_from (sheet_types t) t 1 0) (entities_from list (sheet_types t) t 1 0) ≡ or_else (references_pass t) (entities_pass list t)
unfolding references_pass entities_pass
names-start list t = refl

pub ruleset referring = (refer-end, refer-piece, refer-on, refer-here, behind)

pub ruleset naming = (names-start, names-end, names-piece, names-here, names-on, names_last, behind)
