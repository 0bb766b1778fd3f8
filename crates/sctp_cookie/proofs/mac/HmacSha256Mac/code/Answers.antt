use Rattle.std.proofs.Common.{◌++◌, ap, ◌∙◌}
use Rattle.sha2.specs.Sha256.{sha256}
use Rattle.sctp_cookie.specs.Hmac.{hmac_sha256, masked_block}
use Rattle.sctp_cookie.proofs.mac.HmacSha256Mac.code.Goals as goal

pub returns : goal.returns
unfolding hmac_sha256
returns c =
    let inner = c.finalize.ensures _ (c.update.ensures _ c.keyed-inner.ensures) in
    let outer = c.finalize-2.ensures _ (c.update-2.ensures _ c.keyed-outer.ensures) in
    outer ∙ ap (λ digest. sha256 (masked_block 0x5c c.args.key.now ++ digest)) inner
