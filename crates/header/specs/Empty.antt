-- Settings of the empty image that are stored together.
use Rattle.std.specs.Prelude.{◌*◌, List, [], ◌∷◌}
use Rattle.spec.specs.Header.{Layout, Setting, ◌holding◌}

-- version, lword, ljapa, block_size and header_size of the empty image
unfoldable pub size_settings : Layout → List Setting
size_settings o =
    o.version holding 256 * o.high_version
    ∷ o.lword holding 248
    ∷ o.ljapa holding 3000
    ∷ o.block_size holding 256
    ∷ o.header_size holding 256
    ∷ []
