use Rattle.std.proofs.Common.{◌≡◌, ℕ, ◌-◌, ◌<◌, List, length, ap, arith}
use Rattle.meaning.specs.Words.{Word, Words, Reading, snoc}
use Rattle.meaning.specs.Listing.{first_reading}
use Rattle.meaning.proofs.Lists.{snoc-length}
use Rattle.listing.specs.Positions.{Readable}
use Rattle.listing.specs.Writing.{Written}
use Rattle.listing.proofs.Steps.{word_number}
use Rattle.listing.proofs.Lasts.{last_is, no_last, no_letters, last_row, last_fits, readable_before, first_splits, first_longer}
use Rattle.listing.proofs.Writes.{written_none, written_more}
use Rattle.listing.proofs.leading.+write_first.Goals as goal

pub returns-in_default : goal.returns-in_default
returns-in_default t c X u ρ = written_none (no_letters X u (no_last _ ρ (c.in_default.ensures X u ρ.at)))

pub depth-requires : goal.depth-requires
depth-requires t c =
    let ρ = c.requires.2.readable in
    last_row ρ (last_is _ (c.in-Some.ensures _ _ ρ.at))

pub overflow_sub-i : goal.overflow_sub-i
overflow_sub-i t c =
    let ρ = c.requires.2.readable in
    (last_fits ρ (last_is _ (c.in-Some.ensures _ _ ρ.at)) c.depth.ensures.is).1

pub write_first-n-requires : goal.write_first-n-requires
write_first-n-requires t c =
    let φ = c.requires.2 in
    let w = last_is _ (c.in-Some.ensures _ _ φ.readable.at) in
    let e = c.depth.ensures.is in (
      omega (arith, last_fits φ.readable w e),
      (
        c.requires.0,
        c.requires.1,
        record {
          readable = readable_before φ.readable w e;
          room = omega (arith, first_longer φ.readable w e, φ.room);
        },
      ),
    )

pub word-requires : goal.word-requires
word-requires t c =
    let ρ = c.requires.2.readable in
    last_row ρ (last_is _ (c.in-Some.ensures _ _ ρ.at))

-- what the call wrote, and what it is to be with the last word behind it
record More (X : Words) (u : Word) (i : ℕ) (before after : List ℕ) (k m : ℕ) : Type 0 where
  front : Reading
  written : Written front before after k
  n : ℕ
  splits : first_reading X u i ≡ snoc front n
  is : m ≡ n

more : (t : ℕ) (c : goal.After-word t) (X : Words) (u : Word)
    → let a = c.args in
    Readable X u a.table.now a.states.now a.counts.now a.i
    → More X u a.i a.reading.now c.write_first-n.new.reading c.write_first-n.result c.word.result
more t c X u ρ =
    let w = last_is _ (c.in-Some.ensures _ _ ρ.at) in
    let d = c.depth in
    record {
      front = first_reading X u (c.args.i - d.result);
      written = c.write_first-n.ensures X u (readable_before ρ w d.ensures.is);
      n = w.number;
      splits = first_splits ρ w d.ensures.is;
      is = word_number ρ.at.scanned.table w.word c.word.ensures.is;
    }

-- it fits, since the whole reading does
fits : (t : ℕ) (c : goal.After-word t) → c.write_first-n.result < length c.args.reading.now
fits t c =
    let φ = c.requires.2 in
    let g = more t c _ _ φ.readable in
    omega (arith, g.written.count, φ.room, ap length g.splits, snoc-length g.front g.n)

pub offset_bounds-reading-n : goal.offset_bounds-reading-n
offset_bounds-reading-n t c = omega (arith, fits t c, c.well_formed)

pub bounds-reading-n : goal.bounds-reading-n
bounds-reading-n t c = omega (arith, fits t c, c.write_first-n.auto)

pub overflow_add-result : goal.overflow_add-result
overflow_add-result t c = omega (arith, fits t c, c.well_formed)

pub returns : goal.returns
returns t c X u ρ = let g = more t c X u ρ in written_more g.written g.splits (fits t c) g.is
