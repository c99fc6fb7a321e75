-- Sizes that pass every test are the sizes of a region.
use Rattle.std.proofs.Common.{◌≡◌, ℕ, ◌*◌, ◌/◌, ◌≤◌, ap, arith}
use Rattle.section_map.specs.declared.limits.TheConstants.{LARGEST_REGION}
use Rattle.section_map.specs.Geometry.{IsShape}
use Rattle.section_map.specs.Faults.{IsPeerCount, IsPages, IsSomePages, byte_count, shape_of}

-- The words of the output sections are a quarter of their bytes.
four_words : (peers out : ℕ) → IsPages out → peers * out ≡ 4 * (peers * (out / 4))
four_words peers out pages =
    let whole : out ≡ 4 * (out / 4) = omega arith in
    let sections : peers * out ≡ peers * (4 * (out / 4)) = ap (λ size. peers * size) whole in
    omega (arith, sections)

pub IsShape-shape_of : (peers table common out : ℕ) →
    IsPeerCount peers → IsSomePages table → IsPages common → IsSomePages out → 4 * peers ≤ table →
    byte_count peers table common out ≤ LARGEST_REGION → IsShape (shape_of peers table common out)
IsShape-shape_of peers table common out count pages common_pages out_pages states room = record {
  two_peers = count.0;
  most_peers = count.1;
  table_page = omega (arith, pages.0, pages.1);
  table_pages = omega (arith, pages.1);
  common_pages = omega (arith, common_pages);
  out_page = omega (arith, out_pages.0, out_pages.1);
  out_pages = omega (arith, out_pages.1);
  states = omega (arith, states);
  room = omega (arith, room, four_words peers out out_pages.1);
}
