pub mod NearChunks
