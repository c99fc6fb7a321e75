use Rattle.std.proofs.Common.{subst, rules, ℕ}
use Rattle.section_map.specs.Faults.{IsPages, IsSomePages}
use Rattle.section_map.specs.Geometry.{IsShape}
use Rattle.ivshm_c.specs.declared.device.Found.{Found}
use Rattle.ivshm_c.specs.Sizes.{shape_found, HasSizes, no_region, no_queue}
use Rattle.ivshm_c.proofs.device.sized.Goals as goal

-- the sizes of a region whose geometry is made
sizes : (found : Found) (peers : ℕ) → IsSomePages found.table × IsPages found.common × IsSomePages found.out → IsShape (shape_found found peers) → HasSizes found peers
sizes found peers pages shaped = (pages.0, pages.1, pages.2, shaped)

pub returns-in-Err-clause-fault : goal.returns-in-Err-clause-fault
returns-in-Err-clause-fault c = no_region c.in-Err.fault c.in-Err.ensures.fault c.geometry_status.ensures

pub returns-in-Err-of_version-clause-fault : goal.returns-in-Err-of_version-clause-fault
returns-in-Err-of_version-clause-fault c =
    no_queue c.in-Err-of_version.fault (sizes c.args.found.now c.args.peers (search rules) (subst IsShape c.in-Ok.ensures.made c.in-Ok.ensures.shape)) c.in-Err-of_version.ensures.fault c.queue_status.ensures
