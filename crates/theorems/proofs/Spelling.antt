-- A file is laid out exactly where it is the spelling of a well-formed tree; so each accepted file has one spelling.
use Rattle.std.proofs.Common.{sym, ap, ◌∙◌, append-nil, ◌≡◌, ◌++◌}
use Rattle.std.specs.Prelude.{◌↔◌}
use Rattle.std.proofs.Math.Option.{some-injective}
use Rattle.lists.specs.Maps.{drop_last_lem}
use Rattle.definitions.specs.Basics.{ℕ, true, cond, none, some, List, [], flatten, drop_last, every, is_empty}
use Rattle.definitions.specs.Syntax.{Region}
use Rattle.definitions.specs.Layout.{whole, lines, region_lines, layout}
use Rattle.definitions.specs.Spelling.{spell_body, spell, well_formed}
use Rattle.definitions.specs.Questions.{laid_out, region_of}
use Rattle.theorems.specs.Accepted.{region_said_lem}
use Rattle.theorems.specs.Readers.{Takes, then_each, whole_takes}
use Rattle.theorems.specs.Lines.{in_file, flatten_lines, lines_flatten, lines_bytes}
use Rattle.theorems.specs.Forms.{spell_end}
use Rattle.theorems.specs.Files.{body_lines, file_lines, file_reads, flatten_body, flatten_file}
use Rattle.theorems.proofs.Files.{file_lines_lem}

-- A spelled tree is cut into its lines, whatever stands after it.
lines_spell : (t : Region) (rest : List ℕ) → lines (spell t ++ rest) ≡ file_lines t ++ lines rest
lines_spell t rest = ap (λ (l : List ℕ). lines (l ++ rest)) (sym (flatten_file t)) ∙ lines_flatten (file_lines t) rest (file_lines_lem t)

pub lines_spelt : (t : Region) → lines (spell t) ≡ file_lines t
lines_spelt t = ap lines (sym (append-nil (spell t))) ∙ lines_spell t [] ∙ append-nil (file_lines t)

layout_takes : Takes layout spell well_formed
unfolding layout
layout_takes =
    let law = whole_takes file_reads tt in
    record {
      only = λ {x} {a} e. let (ok, is) = law.only e in (ok, sym (flatten_lines x) ∙ ap flatten is ∙ flatten_file a);
      each = λ t ok. ap (whole region_lines) (lines_spelt t) ∙ law.each t ok;
    }

-- The layout and the spelling are inverse to each other.
pub layout_spelling : (file : List ℕ) (t : Region) → (layout file ≡ some t) ↔ ((well_formed t ≡ true) × (file ≡ spell t))
layout_spelling file t = (layout_takes.only, λ h. ap layout h.1 ∙ layout_takes.each t h.0)

-- So a laid-out file is the spelling of what it says, ..
pub laid_out_spelt : (file : List ℕ) → laid_out file ≡ true → (well_formed (region_of file) ≡ true) × (file ≡ spell (region_of file))
laid_out_spelt file h = layout_takes.only (region_said_lem file h)

-- .. two files that say the same are the same file, ..
pub one_file : (first second : List ℕ) (t : Region) → layout first ≡ some t → layout second ≡ some t → first ≡ second
one_file first second t e f = (layout_takes.only e).1 ∙ sym (layout_takes.only f).1

-- .. and two well-formed trees with the same spelling are the same tree.
pub one_tree : (t u : Region) → well_formed t ≡ true → well_formed u ≡ true → spell t ≡ spell u → t ≡ u
one_tree t u h g e = some-injective t u (sym (layout_takes.each t h) ∙ ap layout e ∙ layout_takes.each u g)

-- With more lines after it, a spelled tree is not laid out.
pub layout_more : (t : Region) (rest : List ℕ) → well_formed t ≡ true → layout (spell t ++ rest) ≡ cond (is_empty (lines rest)) (some t) none
unfolding layout
layout_more t rest ok = ap (whole region_lines) (lines_spell t rest) ∙ then_each file_reads _ t (lines rest) ok tt

-- Every byte of a laid-out file is a digit, a bracket, a space, a hyphen, a small letter or a line end.
pub laid_out_bytes : (file : List ℕ) → laid_out file ≡ true → every in_file file ≡ true
laid_out_bytes file h =
    let t = region_of file in
    ap (every in_file) ((laid_out_spelt file h).1 ∙ sym (flatten_file t)) ∙ lines_bytes (file_lines t) (file_lines_lem t)

-- The bytes before the end line, of which the sum is taken, spell all that stands before it.
pub body_spelt : (file : List ℕ) (t : Region) → layout file ≡ some t → flatten (drop_last (lines file)) ≡ spell_body t
body_spelt file t e =
    ap (λ (ls : List (List ℕ)). flatten (drop_last ls)) (ap lines (layout_takes.only e).1 ∙ lines_spelt t)
    ∙ ap flatten (drop_last_lem (body_lines t) (spell_end t.stated_sum))
    ∙ flatten_body t
