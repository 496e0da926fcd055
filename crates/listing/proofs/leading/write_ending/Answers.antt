-- The first reading is written, and then one word more.
use Rattle.std.proofs.Common.{refl, ◌<◌, length, arith}
use Rattle.listing.proofs.Writes.{written_more}
use Rattle.listing.proofs.leading.write_ending.Goals as goal

pub returns : goal.returns
returns c X t ρ =
    let φ = c.requires.fits.2 in
    let room : c.write_first-n.result < length c.args.reading.now
    = omega (arith, (c.write_first-n.ensures _ _ φ.readable).count, φ.room) in
    (written_more (c.write_first-n.ensures X t ρ) refl room refl).list
