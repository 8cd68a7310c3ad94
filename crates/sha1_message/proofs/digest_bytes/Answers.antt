use Rattle.sha1_definition.specs.Sha1.{digest_bytes, bytes_of}
use Rattle.sha1_message.proofs.digest_bytes.Goals as goal

pub returns : goal.returns
unfolding digest_bytes bytes_of
returns c = rw (
  c.copy_from_slice.ensures.after,
  c.to_be_bytes.ensures,
  c.copy_from_slice-2.ensures.after,
  c.to_be_bytes-2.ensures,
  c.copy_from_slice-3.ensures.after,
  c.to_be_bytes-3.ensures,
  c.copy_from_slice-4.ensures.after,
  c.to_be_bytes-4.ensures,
  c.copy_from_slice-5.ensures.after,
  c.to_be_bytes-5.ensures,
)
