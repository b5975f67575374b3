-- The two calls on pictures do what the model does, or nothing.
use mathlib.Core.Path.{refl}
use lib.ListN.{length}
use borrow.Author.Tests.{eq-eqb, ne_eqb}
use Rattle.pins.specs.Moments.{moments_of}
use Rattle.pins.specs.Picture.{most_pictured}
use Rattle.pins.proofs.ReadBack.{bad_picture_refused}
use Rattle.s100_c.specs.Layout.{answer_size, answer_bytes}
use Rattle.s100_c.specs.Pictures.{seen_size}
use Rattle.s100_c.specs.Promises.{PictureIsThePicture, PictureMisfits, PictureReadIsThePicture, PictureReadRefused}
use Rattle.s100_c.proofs.CallLaws.{lengths_misfit}
use Rattle.s100_c.proofs.ReadBack.{answer_bytes_read_back}

pub picture_is_the_picture : PictureIsThePicture
unfolding moments_of
picture_is_the_picture event a place long =
    let back = answer_bytes_read_back a in
    rw (eq-eqb (length (answer_bytes a)) answer_size back.0, eq-eqb (length place) most_pictured long, back.1) (refl, refl)

pub picture_misfits : PictureMisfits
picture_misfits kind address answer place wrong = rw (lengths_misfit (length answer) (length place) answer_size most_pictured wrong) (refl, refl)

pub picture_read_is_the_picture : PictureReadIsThePicture
picture_read_is_the_picture line place phase signals lines long is = rw (eq-eqb (length place) seen_size long, is) (refl, refl)

pub picture_read_refused : PictureReadRefused
picture_read_refused line place = (
  λ other long. rw (eq-eqb (length place) seen_size long, (bad_picture_refused line).0 other) (refl, refl),
  (
    λ column size first long. rw (eq-eqb (length place) seen_size long, (bad_picture_refused line).1 column size first) (refl, refl),
    λ wrong. rw (ne_eqb (length place) seen_size wrong) (refl, refl),
  ),
)
