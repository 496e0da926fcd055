-- A lent table beside the one that is made, in either form.
use mathlib.Core.Path.{◌≡◌, sym, ap, ap₂, ◌∙◌}
use mathlib.Core.Bool.{Bool, true, false}
use mathlib.Core.List.{List}
use Prim.Native.Nat.{ℕ, ◌*◌, ◌≤◌, ◌<◌}
use native.Mathlib.Omega.{arith}
use lib.ListN.{length, take, drop, length-append, replicate}
use lib.Seq.{take-append_seam}
use borrow.Author.Tests.{lt-ltb, le-ltb}
use Rattle.meaning.specs.Numbers.{most_states}
use Rattle.std.specs.Prelude.{if◌then◌else◌}
use Rattle.meaning.specs.Words.{Words, same}
use Rattle.meaning.specs.Automaton.{states, longest_chain}
use Rattle.meaning.specs.Table.{width, over}
use Rattle.meaning.specs.Plain.{Allowed}
use Rattle.meaning.proofs.Rows.{table-length, narrow_length}
use Rattle.meaning.proofs.States.{allowed_bounded}
use Rattle.tree.specs.declared.layout.Form.{Form}
use Rattle.tree.specs.declared.layout.Form.TheVariants.{Wide, Narrow}
use Rattle.tree.specs.Forms.{width_in, table_in}
use Rattle.automaton.specs.Building.{Accepted, Buildable, Builds}
use Rattle.automaton.specs.Lending.{too_short, judged, wrote, written}
use Rattle.std.specs.Prelude.{Result, Ok, Err}
use Rattle.letters.specs.declared.refusal.Reason.{Reason}
use Rattle.letters.specs.declared.refusal.Reason.TheVariants.{ShortTable, OtherTable}
use Rattle.automaton.specs.declared.building.Built.{Built}

-- what a test of a table, and what a call that writes one may come to
abbrev short : Result Unit Reason
short = Err ShortTable

abbrev other : Result Unit Reason
other = Err OtherTable

abbrev right : Result Unit Reason
right = Ok tt

abbrev too_few : Result Built Reason
too_few = Err ShortTable

abbrev rows : ℕ → ℕ → Result Built Reason
rows n r = Ok (record { states = n; longest = r })

form_length : (form : Form) (X : Words) → length (table_in form X) ≡ width_in form * length (states X)
form_length Wide X = table-length X
form_length Narrow X = narrow_length X

pub form_small : (form : Form) {X : Words} → Allowed X → length (table_in form X) ≤ width * most_states
form_small Wide {X} α = omega (arith, table-length X, (allowed_bounded X α).few)
form_small Narrow {X} α = omega (arith, narrow_length X, (allowed_bounded X α).few)

-- the local array has room for any table
pub roomy : (form : Form) {X : Words} {m b : List ℕ} {words : ℕ} → Accepted X m b words → Buildable form X m b words (replicate 16384 0)
roomy Wide α = record { accepted = α; room = omega arith }
roomy Narrow α = record { accepted = α; room = omega arith }

-- the table is made, and has `end` numbers
module _ {form : Form} {X : Words} {t t' : List ℕ} {n r : ℕ} (β : Builds form X t t' n r) where
  pub end_is : {w : ℕ} → w ≡ width_in form → w * n ≡ length (table_in form X)
  end_is e = ap₂ ◌*◌ e β.count ∙ sym (form_length form X)

  module _ {end : ℕ} (e : end ≡ length (table_in form X)) where
    pub made_room : end ≤ length t'
    made_room = omega (arith, ap length β.rows, length-append (table_in form X) (drop (length (table_in form X)) t))

    made : take end t' ≡ table_in form X
    made =
        ap (λ (k : ℕ). take k t') e
        ∙ ap (take (length (table_in form X))) β.rows
        ∙ take-append_seam (table_in form X) (drop (length (table_in form X)) t)

    module _ (lent : List ℕ) where
      is_short : length lent < end → too_short (table_in form X) lent ≡ true
      is_short l = lt-ltb (length lent) (length (table_in form X)) (omega arith)

      is_long : end ≤ length lent → too_short (table_in form X) lent ≡ false
      is_long l = le-ltb (length lent) (length (table_in form X)) (omega arith)

      pub judged_short : length lent < end → short ≡ judged (table_in form X) lent
      judged_short l = rw (is_short l)

      -- by the comparison with the rows made
      compared : end ≤ length lent → (q : Bool) → q ≡ same (take end lent) (take end t')
          → judged (table_in form X) lent ≡ (if q then right else other)
      compared l q f =
          ap (λ (s : Bool). if s then short else if same (take (length (table_in form X)) lent) (table_in form X) then right else other) (is_long l)
          ∙ ap (λ (k : ℕ). if same (take k lent) (table_in form X) then right else other) (sym e)
          ∙ ap (λ (u : List ℕ). if same (take end lent) u then right else other) (sym made)
          ∙ ap (λ (s : Bool). if s then right else other) (sym f)

      pub judged_right : end ≤ length lent → {q : Bool} → q ≡ same (take end lent) (take end t') → q ≡ true
          → right ≡ judged (table_in form X) lent
      judged_right l {q} f z = sym (compared l q f ∙ ap (λ (s : Bool). if s then right else other) z)

      pub judged_other : end ≤ length lent → {q : Bool} → q ≡ same (take end lent) (take end t') → q ≡ false
          → other ≡ judged (table_in form X) lent
      judged_other l {q} f z = sym (compared l q f ∙ ap (λ (s : Bool). if s then right else other) z)

      pub wrote_short : length lent < end → (too_few ≡ wrote X (table_in form X) lent) × (lent ≡ written (table_in form X) lent)
      wrote_short l = (rw (is_short l), rw (is_short l))

      pub wrote_rows : end ≤ length lent → {lent' : List ℕ} → lent' ≡ over (take end t') lent
          → (rows n r ≡ wrote X (table_in form X) lent) × (lent' ≡ written (table_in form X) lent)
      wrote_rows l {lent'} f = (
        ap (λ (k : ℕ). rows k r) β.count
            ∙ ap (λ (k : ℕ). rows (length (states X)) k) β.longest
            ∙ sym (ap (λ (s : Bool). if s then too_few else rows (length (states X)) (longest_chain X)) (is_long l)),
        f
            ∙ ap (λ (u : List ℕ). over u lent) made
            ∙ sym (ap (λ (s : Bool). if s then lent else over (table_in form X) lent) (is_long l)),
      )

-- a lent table with room for any is written in place
pub wrote_in_place : {form : Form} {X : Words} {lent lent' : List ℕ} {n r : ℕ} → Allowed X → width * most_states ≤ length lent
    → Builds form X lent lent' n r → (rows n r ≡ wrote X (table_in form X) lent) × (lent' ≡ written (table_in form X) lent)
wrote_in_place {form} {X} {lent} {lent'} {n} {r} α room β =
    let long : too_short (table_in form X) lent ≡ false = le-ltb (length lent) (length (table_in form X)) (omega (arith, form_small form α)) in (
      ap (λ (k : ℕ). rows k r) β.count
          ∙ ap (λ (k : ℕ). rows (length (states X)) k) β.longest
          ∙ sym (ap (λ (s : Bool). if s then too_few else rows (length (states X)) (longest_chain X)) long),
      β.rows ∙ sym (ap (λ (s : Bool). if s then lent else over (table_in form X) lent) long),
    )

pub roomy_lent : (form : Form) {X : Words} {m b : List ℕ} {words : ℕ} {lent : List ℕ} → Accepted X m b words
    → width * most_states ≤ length lent → Buildable form X m b words lent
roomy_lent Wide α room = record { accepted = α; room = omega (arith, room) }
roomy_lent Narrow α room = record { accepted = α; room = omega (arith, room) }
