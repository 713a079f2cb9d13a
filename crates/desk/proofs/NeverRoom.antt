-- Neither reading nor writing refuses by 16: that is told of the room alone. Assumes nothing.
use mathlib.Core.Path.{◌≡◌, ap, ◌∙◌}
use mathlib.Core.Bool.{Bool, true, false, cond, not}
use mathlib.Core.List.{List, [], ◌∷◌}
use Prim.Native.Nat.{ℕ, zero, suc, ◌+◌, ◌-◌, ◌/◌, ◌%◌}
use native.Mathlib.Omega.{arith}
use lib.Dec.{leb, eqb}
use lib.ListN.{length, get_or, drop, take}
use Rattle.std.proofs.Common.{Err, Ok}
use Rattle.columns.specs.declared.Fault.{Fault}
use Rattle.columns.specs.declared.Fault.TheVariants.{Byte, Sequence, Terminate, ListOrLength, Spelling, Global, Directory, Macro, Reference, FirstValue, Mark, TooLong, Layout, LayoutReference}
use Rattle.columns.specs.Refusal.{Outcome, accepted, refused, number, demand, each_at, ◌then◌}
use Rattle.values.specs.declared.Number.{Number}
use Rattle.values.specs.declared.Number.TheVariants.{Whole as WholeNumber, Real as RealNumber, Beyond, Bad}
use Rattle.values.specs.declared.Head.{Head}
use Rattle.values.specs.declared.Head.TheVariants.{Count, Plain}
use Rattle.values.specs.declared.Value.{Value}
use Rattle.values.specs.declared.Value.TheVariants.{Text, Whole as WholeValue, Real as RealValue}
use Rattle.values.specs.Head.{head_of}
use Rattle.values.specs.Value.{Item, default, item_of, seen}
use Rattle.records.specs.declared.Next.{Next}
use Rattle.records.specs.declared.Next.TheVariants.{Delimiter, Other}
use Rattle.std.specs.Prelude.{Option, Some, None}
use Rattle.records.specs.declared.Opening.{Opening}
use Rattle.records.specs.Global.{opens, opening_of, global_fits}
use Rattle.records.specs.Record.{Got, found_at, refused_at, Values, values, wrong, blanks, trimmed, start_at, found, beyond, plain, headed, by_next, more, after, next_at, value_at, values_from, values_at}
use Rattle.cards.specs.declared.Counts.{Counts}
use Rattle.cards.specs.declared.Placed.{Placed}
use Rattle.std.specs.Prelude.{Result}
use Rattle.columns.specs.Refusal.{refusal_at}
use Rattle.columns.specs.Columns.{line_at}
use Rattle.columns.specs.First.{first_not}
use Rattle.columns.specs.Format.{most_lines, most_list}
use Rattle.cards.specs.Shared.{file_line}
use Rattle.cards.specs.Cards.{CardsRead, start, lines_of, seven, numbered_of, step_of, line_ok, place_of, pass, closes, closed, length_ok, cards_of, outcome}
use Rattle.directory.specs.declared.Spelt.{Spelt}
use Rattle.directory.specs.declared.Fields.{Fields}
use Rattle.directory.specs.Lines.{entry_at, label_at}
use Rattle.directory.specs.Fields.{entry_of}
use Rattle.directory.specs.Rules.{ranges_ok, all_fit, references, entry_rules, reference_rule}
use Rattle.owners.specs.declared.Owned.{Owned}
use Rattle.owners.specs.declared.Owned.TheVariants.{Everyone, Entry, Line}
use Rattle.owners.specs.InFile.{owners_in, outcome as ownership_outcome}
use Rattle.layouts.specs.Known.{known}
use Rattle.layouts.specs.Fits.{suits, refers_well, asked}
use Rattle.layouts.specs.Entities.{Entity, everywhere, fault, verdict, entity_check}
use Rattle.sheets.specs.Sheet.{Sheet, lines_in, sheet_of}
use Rattle.sheets.specs.Order.{read_sheet, verdict_of, outcome as sheet_outcome, SheetVerdict}
use Rattle.model.specs.Read.{Listed, GlobalRead, two, global_text, global_line, field_fits, is_type, parameters_of, references_of, no_stray, by_values, by_opening, global_in, by_entry, entry_in, entries_in, references_in, by_parameters, entity_in, last_pass, before, read_model, reads}
use Rattle.model.specs.Model.{type_of, entity_of}
use Rattle.model.specs.Canonical.{line_total}
use Rattle.model.specs.Write.{one, row_size, global_rule, row_rules, row_references, row_entity, row_entity_rules, row_types, marks_right, sheet_rules, write_model, writes}

-- ---- an outcome that is no refusal by 16

abbrev NotRoom : {A : Type 0} → Outcome A → Type 0
NotRoom (accepted a) = Unit {0}
NotRoom (refused n p) = number n ≡ 16 → ⊥

then_not : {A B : Type 0} (o : Outcome A) (f : A → Outcome B) → NotRoom o → ((a : A) → NotRoom (f a)) → NotRoom (o then f)
then_not (accepted a) f h k = k a
then_not (refused n p) f h k = h

demand-not : (b : Bool) (n : Fault) (p : ℕ) → (number n ≡ 16 → ⊥) → NotRoom (demand b n p)
demand-not true n p h = tt
demand-not false n p h = h

each_not : {A B : Type 0} (takes : A → ℕ) (f : ℕ → A → Outcome B) → ((p : ℕ) (x : A) → NotRoom (f p x)) → (p : ℕ) (xs : List A) → NotRoom (each_at takes f p xs)
unfolding each_at
each_not takes f h p [] = tt
each_not takes f h p (x ∷ xs) = then_not (f p x) _ (h p x) (λ y. then_not (each_at takes f (p + takes x) xs) _ (each_not takes f h (p + takes x) xs) (λ ys. tt))

-- ---- lines

abbrev LineNot : Result Counts Fault → Type 0
LineNot (Ok c) = Unit {0}
LineNot (Err n) = number n ≡ 16 → ⊥

abbrev CardsNot : CardsRead → Type 0
CardsNot (Ok c) = Unit {0}
CardsNot (Err r) = number r.fault ≡ 16 → ⊥

step-not : (c : Counts) (left : ℕ) (l : List ℕ) → LineNot (step_of c left l)
unfolding step_of numbered_of
step-not c left l = pick (line_ok l) (place_of c left (get_or l 72 0))
  where
    last : (b : Bool) (q : Counts) → LineNot (cond b (Ok q) (Err Sequence))
    last true q = tt
    last false q = λ e. omega arith

    pick : (b : Bool) (x : Option Placed) → LineNot (cond b (numbered_of x l) (Err Byte))
    pick true (Some p) = last (seven l 73 p.number) p.counts
    pick true None = λ e. omega arith
    pick false x = λ e. omega arith

pass-not : (c : Counts) (k : ℕ) (ls : List (List ℕ)) → CardsNot (pass c k ls)
unfolding pass
pass-not c k [] = tt
pass-not c k (l ∷ ls) = pick (step_of c (length ls) l) (step-not c (length ls) l) (λ q. pass-not q (k + 1) ls)
  where
    pick : (x : Result Counts Fault) → LineNot x → ((q : Counts) → CardsNot (pass q (k + 1) ls)) → CardsNot (elim x [ Err w ↦ Err (refusal_at w (file_line k)) | Ok q ↦ pass q (k + 1) ls ])
    pick (Err w) h again = h
    pick (Ok q) h again = again q

cards_not : (f : List ℕ) → NotRoom (outcome (cards_of f))
unfolding cards_of closed
cards_not f = pick (length_ok (length f)) (pass start 1 (lines_of f)) (pass-not start 1 (lines_of f))
  where
    last : (b : Bool) (c : Counts) → NotRoom (outcome (cond b (Ok c) (Err (refusal_at Terminate (file_line (length f / 81))))))
    last true c = tt
    last false c = λ e. omega arith

    pick : (b : Bool) (x : CardsRead) → CardsNot x → NotRoom (outcome (cond b (closed f (length f / 81) x) (Err (refusal_at ListOrLength (file_line 0)))))
    pick true (Ok c) h = last (closes c (line_at f (length f / 81 - 1))) c
    pick true (Err r) h = h
    pick false x h = λ e. omega arith

-- ---- values

abbrev GotNot : Got → Type 0
GotNot (Ok r) = Unit {0}
GotNot (Err r) = number r.fault ≡ 16 → ⊥

abbrev ValuesNot : Values → Type 0
ValuesNot (values vs end) = Unit {0}
ValuesNot (wrong n s at) = number n ≡ 16 → ⊥

found-not : (v : Value) (s : ℕ) (n : Next) → GotNot (found v s n)
found-not v s (Delimiter at last) = tt
found-not v s (Other at) = λ e. omega arith

beyond-not : (s : ℕ) (n : Next) → GotNot (beyond s n)
beyond-not s (Delimiter at last) = λ e. omega arith
beyond-not s (Other at) = λ e. omega arith

plain-not : (s end : ℕ) (n : Next) (k : Number) → GotNot (plain s end n k)
plain-not s end n (WholeNumber neg size) = found-not (WholeValue neg size) s n
plain-not s end n (RealNumber neg m eneg e double) = found-not (RealValue neg m eneg e double) s n
plain-not s end n Beyond = beyond-not s n
plain-not s end n Bad = λ e. omega arith

headed-not : (c d : ℕ) (t : List ℕ) (s : ℕ) (h : Head) → GotNot (headed c d t s h)
headed-not c d t s (Count count len) = pick (leb (s + len + count) (length t))
  where
    pick : (b : Bool) → GotNot (cond b (found (Text (s + len) count) s (next_at c d t (s + len + count))) (refused_at Spelling s (length t)))
    pick true = found-not (Text (s + len) count) s (next_at c d t (s + len + count))
    pick false = λ e. omega arith
headed-not c d t s (Plain k) = plain-not s (s + k.len) (next_at c d t (s + k.len)) k.number

value_not : (w c d : ℕ) (t : List ℕ) (p : ℕ) → GotNot (value_at w c d t p)
unfolding value_at
value_not w c d t p = pick (next_at c d t p)
  where
    pick : (n : Next) → GotNot (by_next w c d t n)
    pick (Delimiter at last) = tt
    pick (Other s) = headed-not c d t s (head_of (take (w - s % w) (drop s t)))

values_not : (fuel w c d : ℕ) (t : List ℕ) (p : ℕ) → ValuesNot (values_from fuel w c d t p)
unfolding values_from
values_not zero w c d t p = λ e. omega arith
values_not (suc fuel) w c d t p = pick (value_at w c d t p) (value_not w c d t p) (λ q. values_not fuel w c d t q)
  where
    on : (v : Item) (x : Values) → ValuesNot x → ValuesNot (more v x)
    on v (values vs end) h = tt
    on v (wrong n s at) h = h

    pick : (g : Got) → GotNot g → ((q : ℕ) → ValuesNot (values_from fuel w c d t q)) → ValuesNot (after t (values_from fuel w c d t) g)
    pick (Ok g) h again = by g.last
      where
        by : (last : Bool) → ValuesNot (after t (values_from fuel w c d t) (found_at g.value g.start g.next last))
        by true = tt
        by false = on (item_of t g.value) (values_from fuel w c d t g.next) (again g.next)
    pick (Err g) h again = h

-- ---- a file

stray_not : (c : Counts) (t : List ℕ) (end : ℕ) → NotRoom (no_stray c t end)
unfolding no_stray
stray_not c t end = demand-not (eqb (end + blanks (drop end t)) (length t)) Spelling (global_line c (end + blanks (drop end t))) (λ e. omega arith)

globals-not : (f : List ℕ) (c : Counts) → NotRoom (global_in f c)
unfolding global_in values_at
globals-not f c = pick (opening_of (global_text f c))
  where
    t : List ℕ
    t = global_text f c

    good : List Item → Bool
    good vs = eqb (first_not (field_fits vs) 0 (length vs)) (length vs)

    place : (p d from : ℕ) → List Item → ℕ
    place p d from vs = global_line c (start_at 72 p d t from (first_not (field_fits vs) 0 (length vs)))

    by : (p d from : ℕ) (x : Values) → ValuesNot x → NotRoom (by_values c t p d from x)
    by p d from (wrong n s at) h = h
    by p d from (values vs end) h = then_not (no_stray c t end) _ (stray_not c t end) (λ _. then_not (demand (good vs) Global (place p d from vs)) _ (demand-not (good vs) Global (place p d from vs) (λ e. omega arith)) (λ _. tt))

    open-at : (p d next : ℕ) (last : Bool) → NotRoom (by_opening c t (opens p d next last))
    open-at p d next true = then_not (no_stray c t next) _ (stray_not c t next) (λ _. tt)
    open-at p d next false = by p d next (values_at 72 p d t next) (values_not (suc (length t)) 72 p d t next)

    pick : (o : Option Opening) → NotRoom (by_opening c t o)
    pick None = λ e. omega arith
    pick (Some o) = open-at o.parameter o.closing o.next o.last

rules_not : (x : Fields) (place : ℕ) → NotRoom (entry_rules x place)
unfolding entry_rules
rules_not x place =
    then_not (demand (ranges_ok x) Directory place) _ (demand-not (ranges_ok x) Directory place (λ e. omega arith))
    (λ _. demand-not (not (eqb x.entity.size 306)) Macro place (λ e. omega arith))

references-not : (types : List ℕ) (x : Fields) (place : ℕ) → NotRoom (reference_rule types x place)
unfolding reference_rule
references-not types x place = demand-not (all_fit types (references (entry_of x))) Reference place (λ e. omega arith)

entry-not : (f : List ℕ) (place k : ℕ) → NotRoom (entry_in f place k)
unfolding entry_in
entry-not f place k = pick (entry_at f k)
  where
    pick : (x : Option Spelt) → NotRoom (by_entry (label_at f k) place x)
    pick None = λ e. omega arith
    pick (Some e) = then_not (entry_rules e.fields place) _ (rules_not e.fields place) (λ _. tt)

owners_not : (c : Counts) (o : Owned) → NotRoom (ownership_outcome c o)
owners_not c Everyone = tt
owners_not c (Entry m) = λ e. omega arith
owners_not c (Line k) = λ e. omega arith

check_not : (list : ℕ) (types : List ℕ) (e : Entity) (place : ℕ) → NotRoom (entity_check list types e place)
unfolding entity_check verdict
check_not list types e place = pick (known list e.typ e.form) (everywhere suits (asked e) e.values) (everywhere (refers_well types) (asked e) e.values)
  where
    pick : (b suit refer : Bool) → NotRoom (cond b (fault (cond suit (cond refer (Ok tt) (Err LayoutReference)) (Err Layout)) place) (accepted tt))
    pick true true true = tt
    pick true true false = λ e. omega arith
    pick true false refer = λ e. omega arith
    pick false suit refer = tt

entity-not : (list : ℕ) (f : List ℕ) (c : Counts) (g : GlobalRead) (types : List ℕ) (place : ℕ) (e : Listed) → NotRoom (entity_in list f c g types place e)
unfolding entity_in values_at
entity-not list f c g types place e = pick (values_at 64 g.parameter g.record_end t 0) (values_not (suc (length t)) 64 g.parameter g.record_end t 0)
  where
    t : List ℕ
    t = parameters_of f c e

    pick : (x : Values) → ValuesNot x → NotRoom (by_parameters list types place e x)
    pick (wrong n s at) h = h
    pick (values vs end) h =
        let b = is_type (type_of e.fields) (get_or vs 0 default) in
        let x = entity_of e.fields (trimmed (drop 1 vs)) in
        then_not (demand b FirstValue place) _ (demand-not b FirstValue place (λ e. omega arith)) (λ _. then_not (entity_check list types x place) _ (check_not list types x place) (λ _. tt))

before-not : (f : List ℕ) → NotRoom (before f)
unfolding before entries_in references_in
before-not f =
    then_not (outcome (cards_of f)) _ (cards_not f)
    (λ c. then_not (global_in f c) _ (globals-not f c)
    (λ g. then_not (entries_in f c) _ (each_not two (entry_in f) (entry-not f) _ _)
    (λ es. then_not (references_in c es) _ (each_not two (references_of _) (λ p e. references-not _ e.fields p) _ es)
    (λ _. then_not (ownership_outcome c (owners_in f c)) _ (owners_not c (owners_in f c)) (λ _. tt)))))

reads-not : (list : ℕ) (f : List ℕ) → NotRoom (reads list f)
unfolding reads read_model last_pass
reads-not list f =
    then_not (read_model list f) _
    (then_not (demand (leb list most_list) ListOrLength 0) _ (demand-not (leb list most_list) ListOrLength 0 (λ e. omega arith))
    (λ _. then_not (before f) _ (before-not f)
    (λ b. then_not (last_pass list f b.counts b.global b.listed) _ (each_not two _ (entity-not list f b.counts b.global _) _ b.listed) (λ es. tt))))
    (λ m. tt)

-- ---- a sheet

sheet-not : (t : List ℕ) → NotRoom (read_sheet t)
unfolding read_sheet
sheet-not t = pick (verdict_of t)
  where
    pick : (v : SheetVerdict) → NotRoom (sheet_outcome (sheet_of (lines_in t)) v)
    pick (Ok n) = tt
    pick (Err n) = λ e. omega arith

sheet_rules_not : (list : ℕ) (s : Sheet) → NotRoom (sheet_rules list s)
unfolding sheet_rules
sheet_rules_not list s =
    then_not (each_at one global_rule _ s.globals) _ (each_not one global_rule (λ p g. demand-not (global_fits g.0 (seen g.1)) Global p (λ e. omega arith)) _ s.globals)
    (λ _. then_not (each_at row_size row_rules _ s.rows) _ (each_not row_size row_rules (λ p r. rules_not r.fields p) _ s.rows)
    (λ _. then_not (each_at row_size (row_references (row_types s)) _ s.rows) _ (each_not row_size _ (λ p r. references-not (row_types s) r.fields p) _ s.rows)
    (λ _. then_not (each_at row_size (row_entity_rules list (row_types s)) _ s.rows) _
    (each_not row_size _ (λ p r. then_not (entity_check list (row_types s) (row_entity r) p) _ (check_not list (row_types s) (row_entity r) p) (λ _. demand-not (marks_right list r) Mark p (λ e. omega arith))) _ s.rows)
    (λ _. tt))))

writes-not : (list : ℕ) (t : List ℕ) → NotRoom (writes list t)
unfolding writes write_model
writes-not list t =
    then_not (write_model list t) _
    (then_not (demand (leb list most_list) ListOrLength 0) _ (demand-not (leb list most_list) ListOrLength 0 (λ e. omega arith))
    (λ _. then_not (read_sheet t) _ (sheet-not t) (λ s. then_not (sheet_rules list s) _ (sheet_rules_not list s) (λ _. tt))))
    (λ m. then_not (demand (leb (line_total m) most_lines) TooLong 0) _ (demand-not (leb (line_total m) most_lines) TooLong 0 (λ e. omega arith)) (λ _. tt))

-- ---- as callers want it

never : {A : Type 0} (o : Outcome A) (n : Fault) (p : ℕ) → NotRoom o → o ≡ refused n p → number n ≡ 16 → ⊥
never (accepted a) n p h e k = let z : ◌≡◌ {A = ℕ} 0 1 = cc in omega arith
never (refused m q) n p h e k = let y : m ≡ n = cc in h (ap number y ∙ k)

pub reads_never : (list : ℕ) (f : List ℕ) (n : Fault) (p : ℕ) → reads list f ≡ refused n p → number n ≡ 16 → ⊥
reads_never list f n p = never (reads list f) n p (reads-not list f)

pub writes_never : (list : ℕ) (t : List ℕ) (n : Fault) (p : ℕ) → writes list t ≡ refused n p → number n ≡ 16 → ⊥
writes_never list t n p = never (writes list t) n p (writes-not list t)
