-- Items in brackets are cut apart at the spaces between them, and nowhere else.
use Rattle.std.proofs.Common.{sym, ◌∙◌, append_assoc, append-nil, eqb-true, ◌≡◌, ◌&&◌, ◌∷◌, ◌++◌}
use Rattle.std.proofs.Math.Path.{ap}
use Rattle.std.proofs.lemmas.Bool.{false≢true, not-true}
use Rattle.std.proofs.Math.Seq.{append_snoc}
use Rattle.definitions.specs.Basics.{ℕ, refl, Bool, true, false, not, Option, some, List, [], map, flat_map, eqb}
use Rattle.definitions.specs.Basics.{every, is_empty, on_all}
use Rattle.definitions.specs.Layout.{Reader, whole, give_if, onto_first, pieces, items}
use Rattle.definitions.specs.Spelling.{bracketed}
use Rattle.lists.specs.Tests.{both, join}
use Rattle.lists.specs.Every.{every_append, every_both, every_image, every_flat_map}
use Rattle.theorems.specs.Readers.{Takes, Reads, Anything, then_only, then_each, gives_only, all_takes, passing_reads, word_reads}

-- Parts with single spaces between them, and in brackets too.
abbrev pub spaced : List (List ℕ) → List ℕ
spaced [] = []
spaced (p ∷ ps) = p ++ flat_map (λ q. 32 ∷ q) ps

pub bracketed_is : (p : List ℕ) (ps : List (List ℕ)) → bracketed (p ∷ ps) ≡ 40 ∷ (spaced (p ∷ ps) ++ 41 ∷ [])
bracketed_is p ps = ap (λ (l : List ℕ). 40 ∷ l) (sym (append_assoc p (flat_map (λ q. 32 ∷ q) ps) (41 ∷ [])))

-- A test that the space and every part pass.
pub every_spaced : (test : ℕ → Bool) → test 32 ≡ true → (ps : List (List ℕ)) → every (every test) ps ≡ true → every test (spaced ps) ≡ true
every_spaced test space [] h = refl
every_spaced test space (p ∷ ps) h =
    let (now, later) = both (every test p) h in
    every_append test p (flat_map (λ q. 32 ∷ q) ps) now (every_flat_map test (every test) (λ q. 32 ∷ q) (λ q g. join space g) ps later)

-- Parts without spaces are what their spelling is cut into, ..
abbrev no_space : ℕ → Bool
no_space b = not (eqb b 32)

pieces_first : (b : ℕ) (bs : List ℕ) → no_space b ≡ true → pieces (b ∷ bs) ≡ onto_first b (pieces bs)
pieces_first b bs h = rw (not-true (eqb b 32) h, pieces)

pieces_one : (p : List ℕ) → every no_space p ≡ true → pieces p ≡ p ∷ []
pieces_one [] h = refl
pieces_one (b ∷ p) h = let (now, later) = both (no_space b) h in pieces_first b p now ∙ ap (onto_first b) (pieces_one p later)

pieces_more : (p bs : List ℕ) → every no_space p ≡ true → pieces (p ++ 32 ∷ bs) ≡ p ∷ pieces bs
pieces_more [] bs h = refl
pieces_more (b ∷ p) bs h =
    let (now, later) = both (no_space b) h in
    pieces_first b (p ++ 32 ∷ bs) now ∙ ap (onto_first b) (pieces_more p bs later)

pieces_spaced : (p : List ℕ) (ps : List (List ℕ)) → every (every no_space) (p ∷ ps) ≡ true → pieces (spaced (p ∷ ps)) ≡ p ∷ ps
unfolding flat_map
pieces_spaced p [] h = ap pieces (append-nil p) ∙ pieces_one p (both (every no_space p) h).0
pieces_spaced p (q ∷ ps) h =
    let (now, later) = both (every no_space p) h in
    pieces_more p (spaced (q ∷ ps)) now ∙ ap (λ (l : List (List ℕ)). p ∷ l) (pieces_spaced q ps later)

-- .. and bytes are the spelling of what they are cut into, which is at least one part.
some_first : (b : ℕ) (ps : List (List ℕ)) → is_empty (onto_first b ps) ≡ false
some_first b [] = refl
some_first b (p ∷ ps) = refl

pieces_some : (bs : List ℕ) → is_empty (pieces bs) ≡ false
pieces_some [] = refl
pieces_some (b ∷ bs) = by (eqb b 32) refl
  where
    by : (t : Bool) → eqb b 32 ≡ t → is_empty (pieces (b ∷ bs)) ≡ false
    by true e = rw (e, pieces)
    by false e = rw (e, pieces) (some_first b (pieces bs))

spaced_first : (b : ℕ) (ps : List (List ℕ)) → spaced (onto_first b ps) ≡ b ∷ spaced ps
unfolding flat_map
spaced_first b [] = refl
spaced_first b (p ∷ ps) = refl

spaced_more : (ps : List (List ℕ)) → is_empty ps ≡ false → spaced ([] ∷ ps) ≡ 32 ∷ spaced ps
unfolding flat_map
spaced_more [] h = absurd (false≢true (sym h))
spaced_more (p ∷ ps) h = refl

spaced_pieces : (bs : List ℕ) → spaced (pieces bs) ≡ bs
unfolding flat_map
spaced_pieces [] = refl
spaced_pieces (b ∷ bs) = by (eqb b 32) refl (spaced_pieces bs)
  where
    by : (t : Bool) → eqb b 32 ≡ t → spaced (pieces bs) ≡ bs → spaced (pieces (b ∷ bs)) ≡ b ∷ bs
    by true e before = rw (e, pieces) (spaced_more (pieces bs) (pieces_some bs) ∙ λ i. sym (eqb-true b 32 e) i ∷ before i)
    by false e before = rw (e, pieces) (spaced_first b (pieces bs) ∙ ap (λ (l : List ℕ). b ∷ l) before)

-- One or more items, each of which passes the test.
abbrev pub some_all : {A : Type 0} → (A → Bool) → List A → Bool
some_all ok l = not (is_empty l) && every ok l

some_image : {A B : Type 0} (f : A → B) (l : List A) (m : List B) → m ≡ map f l → is_empty m ≡ false → not (is_empty l) ≡ true
some_image f [] m e h = absurd (false≢true (sym h ∙ ap is_empty e))
some_image f (x ∷ l) m e h = refl

-- The bytes of an item: no space and no closing bracket.
abbrev no_close : ℕ → Bool
no_close b = not (eqb b 41)

abbrev pub in_item : ℕ → Bool
in_item b = no_space b && no_close b

module _ {A : Type 0} (item : Reader ℕ A) {spell : A → List ℕ} {ok : A → Bool} (law : Takes (whole item) spell ok)
    (bytes : (a : A) → every in_item (spell a) ≡ true) where
  items_spelt : (l : List A) (inside rest : List ℕ) → not (is_empty l) ≡ true → spaced (map spell l) ≡ inside
      → bracketed (map spell l) ++ rest ≡ 40 ∷ (inside ++ 41 ∷ rest)
  items_spelt [] inside rest h e = absurd (false≢true h)
  items_spelt (a ∷ l) inside rest h e =
      ap (λ (b : List ℕ). b ++ rest) (bracketed_is (spell a) (map spell l) ∙ ap (λ (s : List ℕ). 40 ∷ (s ++ 41 ∷ [])) e)
      ∙ append_snoc (40 ∷ inside) 41 rest

  items_only : {xs rest : List ℕ} {l : List A} → items item xs ≡ some (l, rest) → (some_all ok l ≡ true) × (xs ≡ bracketed (map spell l) ++ rest)
  unfolding items
  items_only {xs} {rest} {l} e =
      then_only (word_reads "(") _ xs e λ _ r₁ _ is₁ e₁.
      then_only (passing_reads no_close) _ r₁ e₁ λ inside r₂ _ is₂ e₂.
      then_only (word_reads ")") _ r₂ e₂ λ _ r₃ _ is₃ e₃.
      let (took, rest_is) = gives_only (on_all (whole item) (pieces inside)) e₃ in
      let (oks, pieces_are) = (all_takes law).only took in
      let some_item = some_image spell l (pieces inside) pieces_are (pieces_some inside) in
      let inside_is : spaced (map spell l) ≡ inside = ap spaced (sym pieces_are) ∙ spaced_pieces inside in
      (join some_item oks, rw (is₁, is₂, is₃, rest_is) (sym (items_spelt l inside rest some_item inside_is)))

  items_each : (l : List A) (rest : List ℕ) → some_all ok l ≡ true → Anything rest → items item (bracketed (map spell l) ++ rest) ≡ some (l, rest)
  unfolding items
  items_each [] rest h any = absurd (false≢true h)
  items_each (a ∷ l) rest h any =
      let parts = map spell (a ∷ l) in
      let no_space_lem = every_image (every no_space) spell (λ a. (apart a).0) (a ∷ l) in
      let no_close_lem = every_image (every no_close) spell (λ a. (apart a).1) (a ∷ l) in
      ap (items item) (items_spelt (a ∷ l) (spaced parts) rest refl refl)
      ∙ then_each (word_reads "(") _ tt _ refl tt
      ∙ then_each (passing_reads no_close) _ (spaced parts) _ (every_spaced no_close refl parts no_close_lem) refl
      ∙ then_each (word_reads ")") _ tt rest refl tt
      ∙ ap (λ (ps : List (List ℕ)). give_if (on_all (whole item) ps) rest) (pieces_spaced (spell a) (map spell l) no_space_lem)
      ∙ ap (λ (o : Option (List A)). give_if o rest) ((all_takes law).each (a ∷ l) h)
    where
      apart : (a : A) → (every no_space (spell a) ≡ true) × (every no_close (spell a) ≡ true)
      apart a = both (every no_space (spell a)) (sym (every_both no_space no_close (spell a)) ∙ bytes a)

  pub items_reads : Reads (items item) (λ l. bracketed (map spell l)) (some_all ok) Anything
  items_reads = record { only = items_only; each = items_each }
